-- Trying in a lattice of numbers answers what is computed.
use Rattle.std.proofs.Common.{◌≡◌, ℕ, zero, suc, ◌<◌, Bool, true, false, not, eqb, ◌⊎◌, List, length, get_or, Some, None, Ok, Err, Decides, Result, sym, refl, ap, ◌∙◌, ap₂, inl, inr, arith}
use Rattle.std.proofs.lemmas.Bool.{eqb-true, eq-eqb}
use Rattle.free_lattice.specs.Lattices.{Meaning, Below}
use Rattle.refused.specs.Refused.{Refused, and_then}
use Rattle.sheet.specs.declared.node.Node.{Node}
use Rattle.sheet.specs.declared.node.Node.TheVariants.{Variable, Meet, Join}
use Rattle.sheet.specs.Nodes.{node_at}
use Rattle.sheet.proofs.Nodes.{order}
use Rattle.trying.specs.Trying.{reach, checked, filled, Ready, Stray, Astray, Granted, Tried}
use Rattle.trying.specs.Numbers.{strays, or_here, first_stray, unless_stray, compared, tries, answered}

-- two tests of one fact agree
same_test : (P : Type 0) (a b : Bool) → Decides a P → Decides b P → a ≡ b
same_test P true true p q = refl
same_test P true false p q = sym (q.1 (p.0 refl))
same_test P false true p q = p.1 (q.0 refl)
same_test P false false p q = refl

eqb_decides : (a b : ℕ) → Decides (eqb a b) (a ≡ b)
eqb_decides a b = (eqb-true a b, eq-eqb a b)

passes : (b : Bool) (P : Type 0) → Decides b P → P → not b ≡ false
passes b P h p = ap not (h.1 p)

fails : (b : Bool) (P : Type 0) → Decides b P → (P → ⊥) → not b ≡ true
fails true P h n = absurd (n (h.0 refl))
fails false P h n = refl

module _ (m : Meaning ℕ) (test : ℕ → Bool) (tests : (x : ℕ) → Decides (test x) (m.admitted x)) (ns : List Node) (s : List ℕ) where
  -- a node whose slot is admitted, if it is a variable, does not stray
  none_here : (x : Node) (y : ℕ) → ((c : ℕ) → x ≡ Variable c → m.admitted y) → strays test x y ≡ false
  none_here (Variable c) y ok = passes (test y) (m.admitted y) (tests y) (ok c refl)
  none_here (Meet a b) y ok = refl
  none_here (Join a b) y ok = refl

  none_first : (n : ℕ) → Ready m ns n s → first_stray test ns n s ≡ None
  none_first zero ready = refl
  none_first (suc n) ready =
      ap₂ (λ o b. or_here o b n) (none_first n (λ d k c lt. ready d k c (omega arith))) (none_here (node_at ns n) (get_or s n 0) (λ c. ready 0 n c (omega arith)))

  stray_here : (k : ℕ) → Stray m ns (suc k) s k → first_stray test ns (suc k) s ≡ Some k
  stray_here k st =
      ap₂ (λ o b. or_here o b k) (none_first k st.first)
      (ap (λ x. strays test x (get_or s k 0)) st.variable ∙ fails (test (get_or s k 0)) (m.admitted (get_or s k 0)) (tests (get_or s k 0)) (st.unadmitted 0))

  among : (n j k : ℕ) → k < j → Stray m ns n s k → Stray m ns j s k
  among n j k lt st = record { within = lt; code = st.code; variable = st.variable; unadmitted = st.unadmitted; first = st.first }

  stray_first : (n k : ℕ) → Stray m ns n s k → first_stray test ns n s ≡ Some k
  stray_first zero k st = absurd (omega (arith, st.within))
  stray_first (suc n) k st =
      elim (order k n (omega (arith, st.within))) [
        | inl lt ↦ ap (λ o. or_here o (strays test (node_at ns n) (get_or s n 0)) n) (stray_first n k (among (suc n) n k lt st))
        | inr e ↦ ap (λ i. first_stray test ns (suc i) s) (sym e) ∙ stray_here k (among (suc n) (suc k) k (omega arith) st)
      ]

  abbrev all : ℕ → ℕ → List ℕ
  all u v = filled m.meet m.join 0 ns (reach u v) s

  granted_is : (u v : ℕ) (t : List ℕ) (b : Bool) → Granted m ns u v s t b → Ok (b, t) ≡ tries test m.meet m.join ns u v s
  granted_is u v t b g =
      let t_is : t ≡ all u v = g.slots 0 in
      let b_is : b ≡ eqb (m.meet (get_or t u 0) (get_or t v 0)) (get_or t u 0) = same_test (Below m (get_or t u 0) (get_or t v 0)) b _ (g.below 0) (eqb_decides _ _) in
      ap (λ x. Ok (x, t)) b_is ∙ ap (λ l. Ok (compared m.meet u v l)) t_is
      ∙ sym (ap₂ (λ c o. and_then c (unless_stray o (Ok (compared m.meet u v (all u v))))) g.passed (none_first (reach u v) g.ready))

  refused_is : (u v : ℕ) (f : Refused) → (checked ns u v (length s) ≡ Err f) ⊎ Astray m ns u v s f → Err f ≡ tries test m.meet m.join ns u v s
  refused_is u v f (inl e) = sym (ap (λ c. and_then c (unless_stray (first_stray test ns (reach u v) s) (Ok (compared m.meet u v (all u v))))) e)
  refused_is u v f (inr a) =
      ap Err a.is ∙ sym (ap₂ (λ c o. and_then c (unless_stray o (Ok (compared m.meet u v (all u v))))) a.passed (stray_first (reach u v) a.node a.stray))

  pub tried_answers : (u v : ℕ) (t : List ℕ) (r : Result Bool Refused) → Tried m ns u v s t r → answered r t ≡ tries test m.meet m.join ns u v s
  tried_answers u v t (Ok b) g = granted_is u v t b g
  tried_answers u v t (Err f) h = refused_is u v f h.1
