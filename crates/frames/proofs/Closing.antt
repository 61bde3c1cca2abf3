-- What is found amiss with an order, in the words of chains.
use Rattle.std.proofs.Common.{◌≡◌, ℕ, ◌<◌, ◌≤◌, Bool, true, false, cond, ◌&&◌, is_some, Some, None, Ok, Decides, Option, sym, refl, ap, ◌∙◌, subst, inl, inr, arith}
use Rattle.std.proofs.lemmas.Bool.{not-true, not-false, cases_order}
use Rattle.std.proofs.lemmas.Bool.Decides.{Decides-and, not_from_Decides}
use Rattle.free_lattice.specs.Bounds.{Infimum, Order}
use Rattle.frames.specs.declared.refusal.Refusal.{Refusal}
use Rattle.frames.specs.declared.refusal.Refusal.TheVariants.{NoJoin, NoMeet}
use Rattle.frames.specs.Tests.{first_pair, rising}
use Rattle.frames.specs.Order.{le, bound}
use Rattle.frames.specs.Drafts.{Drafted, Framed}
use Rattle.frames.specs.Closing.{closure, cyclic, gap, amiss_by, amiss, closing_by, closing}
use Rattle.frames.specs.Laws.{Elem, Chain, stay, then, Cyclic, Met, Joined, First, Drawn, Reason}
use Rattle.frames.specs.Finding.{pair_none, pair_found}
use Rattle.frames.specs.Bounds.{Facing, bound_decides, frame_bounded}
use Rattle.frames.proofs.Chains.{chains_decided}

first_like : {n : ℕ} {P Q P' Q' : ℕ → ℕ → Type 0} (a b : ℕ) → ((x y : ℕ) → x < n → y < n → P x y → P' x y) → (a < n → b < n → Q a b → Q' a b)
    → First n P Q a b → First n P' Q' a b
first_like a b f g t =
    let h = t.rises in
    let k = t.inside in
    record {
      rises = h;
      inside = k;
      here = g (omega arith) k t.here;
      earlier = λ x y u v e. f x y (omega arith) v (t.earlier x y u v e);
    }

swapped : {E : Type 0} {P : E → Type 0} {R : E → E → Type 0} (a b c : E) → Infimum P R a b c → Infimum P R b a c
swapped a b c i =
    record { among = i.among; lower_left = i.lower_right; lower_right = i.lower_left; greatest = λ d p x y. i.greatest d p y x }

module _ (D : Drafted) (few : D.size ≤ 8) where
  abbrev n : ℕ
  n = D.size

  abbrev w : ℕ
  w = closure n D.lines

  -- a and b have a meet, or a join where up
  abbrev Has : Bool → ℕ → ℕ → Type 0
  Has up a b = (c : ℕ) × Infimum (Elem D) (Facing (Chain D) up) a b c

  has_decided : (up : Bool) (a b : ℕ) → a < n → b < n → Decides (is_some (bound n w up a b)) (Has up a b)
  has_decided = bound_decides n w (Chain D) (chains_decided D few)

  cyclic_decided : (a b : ℕ) → a < n → b < n → Decides (cyclic w a b) (Cyclic D a b)
  cyclic_decided a b p q = Decides-and (le w false a b) (le w false b a) (chains_decided D few a b p q) (chains_decided D few b a q p)

  acyclic : (a b : ℕ) → a < n → b < n → cyclic w a b ≡ false → Cyclic D a b → ⊥
  acyclic a b p q = not_from_Decides (cyclic w a b) (cyclic_decided a b p q)

  whole : (a b : ℕ) → a < n → b < n → gap n w a b ≡ false → Met D a b × Joined D a b
  whole a b p q e =
      let j = is_some (bound n w true a b) in
      let m = is_some (bound n w false a b) in
      let both = (Decides-and j m (has_decided true a b p q) (has_decided false a b p q)).0 (not-false (j && m) e) in
      (both.1, both.0)

  ordered : first_pair (rising n (cyclic w)) ≡ None → Order (Elem D) (Chain D)
  ordered none =
      record {
        reflexive = stay;
        transitive = λ a b c _ _ _ x y. then a b c x y;
        antisymmetric = λ a b p q x y. elim (cases_order a b) [
          | inl e ↦ e
          | inr r ↦ elim r [
            | inl lt ↦ absurd (acyclic a b p q (pair_none n (cyclic w) few none a b lt q) (x, y))
            | inr gt ↦ absurd (acyclic b a q p (pair_none n (cyclic w) few none b a gt p) (y, x))
          ]
        ];
      }

  pick : (up : Bool) (a b : ℕ) → Met D a b × Joined D a b → Has up a b
  pick false a b h = h.0
  pick true a b h = h.1

  itself : (up : Bool) (a : ℕ) → a < n → Has up a a
  itself false a p = (a, record { among = p; lower_left = stay a p; lower_right = stay a p; greatest = λ d l x y. x })
  itself true a p = (a, record { among = p; lower_left = stay a p; lower_right = stay a p; greatest = λ d l x y. x })

  complete : first_pair (rising n (gap n w)) ≡ None → (up : Bool) (a b : ℕ) → a < n → b < n → Has up a b
  complete none up a b p q =
      elim (cases_order a b) [
        | inl e ↦ subst (Has up a) e (itself up a p)
        | inr r ↦ elim r [
          | inl lt ↦ pick up a b (whole a b p q (pair_none n (gap n w) few none a b lt q))
          | inr gt ↦ (let h = pick up b a (whole b a q p (pair_none n (gap n w) few none b a gt p)) in (h.0, swapped b a h.0 h.1))
        ]
      ]

  lacks : (a b : ℕ) → Order (Elem D) (Chain D) → First n (λ x y. gap n w x y ≡ false) (λ x y. gap n w x y ≡ true) a b
      → (r : Bool) → is_some (bound n w true a b) ≡ r → Reason D (cond r (NoMeet a b) (NoJoin a b))
  lacks a b o t true e =
      let j = is_some (bound n w true a b) in
      let m = is_some (bound n w false a b) in (
        o,
        first_like a b whole
            (λ p q h. ((has_decided true a b p q).0 e, not_from_Decides m (has_decided false a b p q) (sym (ap (λ v. v && m) e) ∙ not-true (j && m) h)))
            t,
      )
  lacks a b o t false e =
      (o, first_like a b whole (λ p q h. not_from_Decides (is_some (bound n w true a b)) (has_decided true a b p q) e) t)

  Verdict : Option Refusal → Type 0
  Verdict None = Drawn D (record { size = n; order = w })
  Verdict (Some f) = Reason D f

  verdict_by : (o g : Option (ℕ × ℕ)) → first_pair (rising n (cyclic w)) ≡ o → first_pair (rising n (gap n w)) ≡ g → Verdict (amiss_by n w o g)
  unfolding Verdict
  verdict_by (Some s) g e f = first_like s.0 s.1 acyclic (λ p q. (cyclic_decided s.0 s.1 p q).0) (pair_found n (cyclic w) s few e)
  verdict_by None (Some s) e f = lacks s.0 s.1 (ordered e) (pair_found n (gap n w) s few f) (is_some (bound n w true s.0 s.1)) refl
  verdict_by None None e f =
      record {
        same_size = refl;
        decides = chains_decided D few;
        lattice = frame_bounded n w (Chain D) (chains_decided D few) (ordered e) (λ up a b p q. (has_decided up a b p q).1 (complete f up a b p q));
      }

  verdict : Verdict (amiss n w)
  unfolding amiss
  verdict = verdict_by (first_pair (rising n (cyclic w))) (first_pair (rising n (gap n w))) refl refl

  pub reason_of : (f : Refusal) → Some f ≡ amiss n w → Reason D f
  unfolding Verdict
  reason_of f e = subst Verdict (sym e) verdict

  pub drawn_of : (F : Framed) → Ok F ≡ closing D → Drawn D F
  unfolding Verdict
  drawn_of F e = by (amiss n w) verdict e
    where
      by : (o : Option Refusal) → Verdict o → Ok F ≡ closing_by D w o → Drawn D F
      by None d e = let same : F ≡ record { size = n; order = w } = grind arith in subst (Drawn D) (sym same) d
      by (Some f) d e = absurd (grind arith)
