-- What trying means for the terms of the nodes: a grant is judged by the filling that the slots give.
use Rattle.std.proofs.Common.{◌≡◌, ℕ, zero, suc, ◌+◌, ◌<◌, ◌≤◌, max, Bool, true, false, not, ltb, leb, List, [], ◌∷◌, length, get_or, take, set, Some, None, Ok, Decides, Option, sym, refl, ap, ◌∙◌, subst, ap₂, subst₂, arith}
use Rattle.std.proofs.lemmas.List.{get_or-take, length-take-le, get_or-set_same, get_or_default}
use Rattle.std.proofs.lemmas.Bool.{ltb-true, leb-true}
use Rattle.free_lattice.specs.Lattices.{Meaning, Below, Laws, value, FailsIn}
use Rattle.free_lattice.specs.Terms.{Term, var, meet, join}
use Rattle.refused.specs.Refused.{refused, tested, and_then}
use Rattle.sheet.specs.declared.node.Node.{Node}
use Rattle.sheet.specs.declared.node.Node.TheVariants.{Variable, Meet, Join}
use Rattle.sheet.specs.Nodes.{node_at, find, Grounded, Distinct, terms, term_of, term_at}
use Rattle.sheet.proofs.Nodes.{found, not_found, clash}
use Rattle.sheet.proofs.Terms.{term_is}
use Rattle.trying.specs.Trying.{reach, checked, PartsBelow, put, filled, Filled, Admitted, Ready, Granted, slot_of, filling, Judgment, Verdict}
use Rattle.trying.proofs.Slots.{parts_of, length_filled, untouched, once}

-- what is checked holds
pub record Fits (ns : List Node) (u v n : ℕ) : Type 0 where
  pub first : u < length ns
  pub second : v < length ns
  pub room : reach u v ≤ n

pub checked_fits : (ns : List Node) (u v n : ℕ) → checked ns u v n ≡ Ok tt → Fits ns u v n
checked_fits ns u v n h = go (ltb u (length ns)) (ltb v (length ns)) (leb (reach u v) n) refl refl refl h
  where
    go : (x y z : Bool) → ltb u (length ns) ≡ x → ltb v (length ns) ≡ y → leb (reach u v) n ≡ z
        → and_then (tested x (refused 9 (u ∷ []))) (and_then (tested y (refused 9 (v ∷ []))) (tested z (refused 18 []))) ≡ Ok tt → Fits ns u v n
    go true true true p q r e = record { first = ltb-true u (length ns) p; second = ltb-true v (length ns) q; room = leb-true (reach u v) n r }
    go true true false p q r e = let i : ◌≡◌ {A = ℕ} 0 1 = cc in absurd (omega arith)
    go true false z p q r e = let i : ◌≡◌ {A = ℕ} 0 1 = cc in absurd (omega arith)
    go false y z p q r e = let i : ◌≡◌ {A = ℕ} 0 1 = cc in absurd (omega arith)

module _ {E : Type 0} (d : E) (ns : List Node) (n : ℕ) (s : List E) (fit : n ≤ length ns) where
  first_at : (j c : ℕ) → find (take n ns) (Variable c) ≡ Some j → (j < n) × (node_at ns j ≡ Variable c)
  first_at j c e =
      let f = found (take n ns) j (Variable c) e in
      let lt : j < n = omega (arith, f.0, length-take-le n ns fit) in
      (lt, sym (get_or-take n ns j (Variable 0) lt) ∙ f.1)

  -- the filling gives a variable its slot
  filling_at : Distinct ns → (k c : ℕ) → k < n → node_at ns k ≡ Variable c → get_or s k d ≡ filling d ns n s c
  filling_at distinct k c lt is = go (find (take n ns) (Variable c)) refl
    where
      go : (o : Option ℕ) → find (take n ns) (Variable c) ≡ o → get_or s k d ≡ slot_of d s o
      go (Some j) e =
          let f = first_at j c e in
          ap (λ i. get_or s i d) (distinct k j (omega arith, omega (arith, f.0), is ∙ sym f.1))
      go None e = absurd (not_found (take n ns) k (Variable c) e (omega (arith, length-take-le n ns fit)) (get_or-take n ns k (Variable 0) lt ∙ is))

  filling_admitted : (m : Meaning E) → Ready m ns n s → m.admitted d → (c : ℕ) → m.admitted (filling d ns n s c)
  filling_admitted m ready ok c = go (find (take n ns) (Variable c)) refl
    where
      go : (o : Option ℕ) → find (take n ns) (Variable c) ≡ o → m.admitted (slot_of d s o)
      go (Some j) e = let f = first_at j c e in ready d j c f.0 f.1
      go None e = ok

-- a filled slot holds the value of its node's term
module _ {E : Type 0} (m : Meaning E) (d : E) (ρ : ℕ → E) (ns : List Node) (n : ℕ) (s : List E) (grounded : Grounded ns) (fit : n ≤ length ns) (room : n ≤ length s)
    (given : (k c : ℕ) → k < n → node_at ns k ≡ Variable c → get_or s k d ≡ ρ c) where
  abbrev fills : ℕ → List E
  fills i = filled m.meet m.join d ns i s

  written : (k : ℕ) → k < n → (x : E) → get_or (set (fills k) k x) k d ≡ x
  written k lt x = get_or-set_same (fills k) k x d (omega (arith, length_filled m.meet m.join d ns s k))

  value_by : (k : ℕ) → k < n → ((j : ℕ) → j < k → get_or (fills k) j d ≡ value m ρ (term_at ns j))
      → (x : Node) → node_at ns k ≡ x → PartsBelow k x → get_or (put m.meet m.join d k x (fills k)) k d ≡ value m ρ (term_of (terms ns) x)
  value_by k lt part (Variable c) e p = untouched m.meet m.join d ns s k k d (omega arith) ∙ given k c lt e
  value_by k lt part (Meet a b) e (la, lb) = written k lt _ ∙ ap₂ m.meet (part a la) (part b lb)
  value_by k lt part (Join a b) e (la, lb) = written k lt _ ∙ ap₂ m.join (part a la) (part b lb)

  value_below : (i k : ℕ) → k < i → k < n → get_or (fills n) k d ≡ value m ρ (term_at ns k)
  value_below zero k ki kn = absurd (omega arith)
  value_below (suc i) k ki kn =
      let lt : k < length ns = omega arith in
      once m.meet m.join d ns s n k d kn
      ∙ value_by k kn
      (λ j jk. once m.meet m.join d ns s k j d jk ∙ sym (once m.meet m.join d ns s n j d (omega arith)) ∙ value_below i j (omega arith) (omega arith))
      (node_at ns k) refl (parts_of k (node_at ns k) (grounded k lt))
      ∙ sym (ap (value m ρ) (term_is ns k grounded lt))

  pub filled_value : (k : ℕ) → k < n → get_or (fills n) k d ≡ value m ρ (term_at ns k)
  filled_value k lt = value_below (suc k) k (omega arith) lt

-- the answer b of the lattice for the slots x and y of the two nodes, n the later of which; a fill left the slots t' as t
pub granted : {E : Type 0} (m : Meaning E) (ns : List Node) (u v n : ℕ) (s t t' : List E) (x y : E) (b : Bool) → n ≡ max u v → Ok tt ≡ checked ns u v (length s) → Ready m ns (n + 1) s
    → Filled m ns (n + 1) s t → Admitted m (n + 1) t → x ≡ get_or t' u x → y ≡ get_or t' v y → t' ≡ t → (m.admitted x → m.admitted y → Decides b (Below m x y)) → Granted m ns u v s t' b
granted m ns u v n s t t' x y b later passed ready slots admitted ex ey same says =
    let fit = checked_fits ns u v (length s) (sym passed) in
    let long : length t' ≡ length s = ap length (same ∙ slots x) ∙ length_filled m.meet m.join x ns s (n + 1) in
    let px = subst m.admitted (sym (ex ∙ ap (λ l. get_or l u x) same)) (admitted x u (omega arith)) in
    let py = subst m.admitted (sym (ey ∙ ap (λ l. get_or l v y) same)) (admitted y v (omega arith)) in
    record {
      passed = sym passed;
      ready = subst (λ k. Ready m ns (k + 1) s) later ready;
      slots = subst (λ k. Filled m ns (k + 1) s t') later (λ d. same ∙ slots d);
      below = λ d. subst₂ (λ x' y'. Decides b (Below m x' y')) (ex ∙ get_or_default t' u x d (omega (arith, fit.room))) (ey ∙ get_or_default t' v y d (omega (arith, fit.room))) (says px py);
    }

-- in a filling with admitted elements every term has an admitted value
value_admitted : {E : Type 0} (m : Meaning E) → Laws m → (ρ : ℕ → E) → ((c : ℕ) → m.admitted (ρ c)) → (t : Term) → m.admitted (value m ρ t)
value_admitted m laws ρ ok (var c) = ok c
value_admitted m laws ρ ok (meet a b) = laws.meet_admitted _ _ (value_admitted m laws ρ ok a) (value_admitted m laws ρ ok b)
value_admitted m laws ρ ok (join a b) = laws.join_admitted _ _ (value_admitted m laws ρ ok a) (value_admitted m laws ρ ok b)

-- the first node is a variable
first_variable : (x : Node) → PartsBelow 0 x → (c : ℕ) × (x ≡ Variable c)
first_variable (Variable c) p = (c, refl)
first_variable (Meet a b) p = absurd (omega (arith, p.0))
first_variable (Join a b) p = absurd (omega (arith, p.0))

-- no, where the fact fails
denied : (b : Bool) (P : Type 0) → Decides b P → Decides (not b) (P → ⊥)
denied true P h = (λ e. absurd (clash (sym e)), λ n. absurd (n (h.0 refl)))
denied false P h = (λ _ p. clash (sym (h.1 p)), λ _. refl)

module _ {E : Type 0} (m : Meaning E) (laws : Laws m) (ns : List Node) (grounded : Grounded ns) (distinct : Distinct ns) (u v : ℕ) (s t : List E) (b : Bool) (g : Granted m ns u v s t b) where
  fit : Fits ns u v (length s)
  fit = checked_fits ns u v (length s) g.passed

  end : reach u v ≤ length ns
  end = omega (arith, fit.first, fit.second)

  values : (d : E) (k : ℕ) → k < reach u v → get_or t k d ≡ value m (filling d ns (reach u v) s) (term_at ns k)
  values d k lt = ap (λ l. get_or l k d) (g.slots d) ∙ filled_value m d (filling d ns (reach u v) s) ns (reach u v) s grounded end fit.room (filling_at d ns (reach u v) s end distinct) k lt

  -- the slot of the first node is admitted
  some_admitted : (d : E) → m.admitted (get_or s 0 d)
  some_admitted d = let x = first_variable (node_at ns 0) (parts_of 0 (node_at ns 0) (grounded 0 (omega (arith, end)))) in g.ready d 0 x.0 (omega arith) x.1

  slots_admitted : (d : E) (k : ℕ) → k < reach u v → m.admitted (get_or t k d)
  slots_admitted d k lt =
      let e = get_or s 0 d in
      let long : length t ≡ length s = ap length (g.slots d) ∙ length_filled m.meet m.join d ns s (reach u v) in
      subst m.admitted (sym (get_or_default t k d e (omega (arith, fit.room)) ∙ values e k lt))
      (value_admitted m laws _ (filling_admitted e ns (reach u v) s end m g.ready (some_admitted d)) (term_at ns k))

  judged : (d : E) → Judgment m ns u v s t b d (filling d ns (reach u v) s)
  judged d =
      let ρ = filling d ns (reach u v) s in
      let says : Decides b (Below m (value m ρ (term_at ns u)) (value m ρ (term_at ns v))) = subst₂ (λ x y. Decides b (Below m x y)) (values d u (omega arith)) (values d v (omega arith)) (g.below d) in
      record {
        values = values d;
        others = λ k le. ap (λ l. get_or l k d) (g.slots d) ∙ untouched m.meet m.join d ns s (reach u v) k d le;
        slots_admitted = slots_admitted d;
        filling_admitted = filling_admitted d ns (reach u v) s end m g.ready;
        holds = says;
        fails = denied b (Below m (value m ρ (term_at ns u)) (value m ρ (term_at ns v))) says;
      }

  -- a filling of a pair that is denied, with admitted elements: the slots, and for other variables the slot of the first node
  refutes : b ≡ false → FailsIn m (term_at ns u) (term_at ns v)
  refutes denied_by = go s refl
    where
      go : (l : List E) → s ≡ l → FailsIn m (term_at ns u) (term_at ns v)
      go [] e = absurd (omega (arith, fit.room, ap length e))
      go (x ∷ xs) e =
          let d = get_or s 0 x in
          let j = judged d in
          (filling d ns (reach u v) s, j.filling_admitted (some_admitted x), j.fails.0 (ap not denied_by))

  pub verdict : Verdict m ns u v s t b
  verdict = record { judgment = judged; refutes = refutes }
