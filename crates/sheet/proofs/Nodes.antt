-- What finding a node tells, and the invariants of the nodes when one is added or the last are taken off.
use Rattle.std.proofs.Common.{◌≡◌, ℕ, zero, suc, ◌+◌, ◌<◌, ◌≤◌, Bool, true, false, cond, ◌⊎◌, List, [], ◌∷◌, ◌++◌, length, take, drop, is_some, Some, None, Option, sym, refl, ap, ap₂, ◌∙◌, subst, inl, inr, ⊎_elim, arith}
use Rattle.std.specs.List.{position_from}
use Rattle.std.proofs.lemmas.Bool.Decides.{nat_tests}
use Rattle.std.proofs.lemmas.List.{at_drop_more, at_drop_all, length_push, get_or_push, get_or_append_left, length-take, get_or-take}
use Rattle.sheet.specs.declared.node.Node.{Node}
use Rattle.sheet.specs.declared.node.Node.TheVariants.{Variable, Meet, Join}
use Rattle.sheet.specs.declared.node.Record.{Record}
use Rattle.sheet.specs.contracts.node.NodePartialEq.TheImpl.{ghosts}
use Rattle.sheet.specs.Nodes.{same, find, fits, node_at, Grounded, Distinct}
use Rattle.sheet.specs.Records.{nodes}

-- the number of the first node that is n, counted from k
abbrev pub find_from : ℕ → List Node → Node → Option ℕ
find_from k ns n = position_from (λ m. same m n) k ns

pub same_self : (n : Node) → same n n ≡ true
same_self (Variable c) = grind (arith, nat_tests)
same_self (Meet a b) = grind (arith, nat_tests)
same_self (Join a b) = grind (arith, nat_tests)

pub same_true : (m n : Node) → same m n ≡ true → m ≡ n
same_true (Variable c) (Variable d) h = grind (arith, nat_tests)
same_true (Variable c) (Meet x y) h = grind (arith, nat_tests)
same_true (Variable c) (Join x y) h = grind (arith, nat_tests)
same_true (Meet a b) (Variable d) h = grind (arith, nat_tests)
same_true (Meet a b) (Meet x y) h = grind (arith, nat_tests)
same_true (Meet a b) (Join x y) h = grind (arith, nat_tests)
same_true (Join a b) (Variable d) h = grind (arith, nat_tests)
same_true (Join a b) (Meet x y) h = grind (arith, nat_tests)
same_true (Join a b) (Join x y) h = grind (arith, nat_tests)

-- what the derived `==` answers
equals : (m n : Node) (r : Bool) → (r ≡ ghosts.eq m n) → r ≡ same m n
equals (Variable c) (Variable d) r h = grind (arith, nat_tests, h)
equals (Variable c) (Meet x y) r h = h
equals (Variable c) (Join x y) r h = h
equals (Meet a b) (Variable d) r h = h
equals (Meet a b) (Meet x y) true h = grind (arith, nat_tests, h)
equals (Meet a b) (Meet x y) false h = grind (arith, nat_tests, h)
equals (Meet a b) (Join x y) r h = h
equals (Join a b) (Variable d) r h = h
equals (Join a b) (Meet x y) r h = h
equals (Join a b) (Join x y) true h = grind (arith, nat_tests, h)
equals (Join a b) (Join x y) false h = grind (arith, nat_tests, h)

-- the search among the records, by the derived `==`, is that among their nodes
pub position_of_nodes : (n : Node) (k : ℕ) (rs : List Record) → position_from (λ (r : Record). ghosts.eq r.node n) k rs ≡ find_from k (nodes rs) n
position_of_nodes n k [] = refl
position_of_nodes n k (r ∷ rs) = ap₂ (λ b o. cond b (Some k) o) (equals r.node n _ refl) (position_of_nodes n (k + 1) rs)

-- one step of the search: b is what `==` answered for the node x, which stands at the number k
pub find_step : (ns : List Node) (k : ℕ) (x n : Node) (b : Bool) → k < length ns → x ≡ node_at ns k → (b ≡ ghosts.eq x n) → find_from k (drop k ns) n ≡ cond b (Some k) (find_from (k + 1) (drop (k + 1) ns) n)
find_step ns k x n b lt is e =
    at_drop_more (λ l. find_from k l n) ns k (Variable 0) lt ∙ ap (λ y. cond y (Some k) (find_from (k + 1) (drop (k + 1) ns) n)) (sym (equals x n b e ∙ ap (λ m. same m n) is))

pub find_end : (ns : List Node) (k : ℕ) (n : Node) → length ns ≤ k → find_from k (drop k ns) n ≡ None
find_end ns k n le = at_drop_all (λ l. find_from k l n) ns k le

-- where a node was found, it is
pub record Here (ns : List Node) (j k : ℕ) (n : Node) : Type 0 where
  pub index : ℕ
  pub is : k ≡ j + index
  pub below : index < length ns
  pub node_is : node_at ns index ≡ n

found_from : (ns : List Node) (j k : ℕ) (n : Node) → find_from j ns n ≡ Some k → Here ns j k n
found_from [] j k n h = absurd (cc)
found_from (m ∷ ms) j k n h = go (same m n) refl h (found_from ms (j + 1) k n)
  where
    go : (x : Bool) → same m n ≡ x → cond x (Some j) (find_from (j + 1) ms n) ≡ Some k → (find_from (j + 1) ms n ≡ Some k → Here ms (j + 1) k n) → Here (m ∷ ms) j k n
    go true e i later = let z : j ≡ k = cc in record { index = 0; is = omega arith; below = omega arith; node_is = same_true m n e }
    go false e i later = let l = later i in record { index = suc l.index; is = omega (arith, l.is); below = omega (arith, l.below); node_is = l.node_is }

pub found : (ns : List Node) (k : ℕ) (n : Node) → find ns n ≡ Some k → (k < length ns) × (node_at ns k ≡ n)
found ns k n h =
    let f = found_from ns 0 k n h in
    let here : k ≡ f.index = omega (arith, f.is) in
    (omega (arith, f.below), ap (node_at ns) here ∙ f.node_is)

-- a node that is there is found
finds : (ns : List Node) (j k : ℕ) → k < length ns → is_some (find_from j ns (node_at ns k)) ≡ true
finds [] j k lt = absurd (omega arith)
finds (n ∷ ns) j zero lt = ap (λ x. is_some (cond x (Some j) (find_from (j + 1) ns n))) (same_self n)
finds (n ∷ ns) j (suc k) lt = go (same n (node_at ns k)) (finds ns (j + 1) k (omega arith))
  where
    go : (x : Bool) → is_some (find_from (j + 1) ns (node_at ns k)) ≡ true → is_some (cond x (Some j) (find_from (j + 1) ns (node_at ns k))) ≡ true
    go true h = refl
    go false h = h

pub clash : ◌≡◌ {A = Bool} true false → ⊥
clash z = grind arith

pub not_found : (ns : List Node) (k : ℕ) (n : Node) → find ns n ≡ None → k < length ns → node_at ns k ≡ n → ⊥
not_found ns k n none lt e = clash (sym (ap (λ x. is_some (find ns x)) (sym e) ∙ finds ns 0 k lt) ∙ ap is_some none)

pub order : (k n : ℕ) → k < n + 1 → (k < n) ⊎ (k ≡ n)
order k n h = grind arith

-- one node more
module _ (ns : List Node) (n : Node) where
  old_at : (k : ℕ) → k < length ns → node_at (ns ++ n ∷ []) k ≡ node_at ns k
  old_at k lt = get_or_append_left ns (n ∷ []) (Variable 0) k lt

  new_at : (k : ℕ) → k ≡ length ns → node_at (ns ++ n ∷ []) k ≡ n
  new_at k e = get_or_push ns n (Variable 0) k (sym e)

  either_at : (k : ℕ) → k < length (ns ++ n ∷ []) → (k < length ns) ⊎ (k ≡ length ns)
  either_at k lt = order k (length ns) (omega (arith, length_push ns n))

  pub grounded_more : Grounded ns → fits (length ns) n ≡ true → Grounded (ns ++ n ∷ [])
  grounded_more g f k lt =
      ⊎_elim (λ below. ap (fits k) (old_at k below) ∙ g k below)
      (λ here. subst (λ i. fits i (node_at (ns ++ n ∷ []) i) ≡ true) (sym here) (ap (fits (length ns)) (new_at (length ns) refl) ∙ f))
      (either_at k lt)

  pub distinct_more : Distinct ns → find ns n ≡ None → Distinct (ns ++ n ∷ [])
  distinct_more d new i j (li, lj, e) = go (either_at i li) (either_at j lj)
    where
      go : (i < length ns) ⊎ (i ≡ length ns) → (j < length ns) ⊎ (j ≡ length ns) → i ≡ j
      go (inl a) (inl b) = d i j (a, b, sym (old_at i a) ∙ e ∙ old_at j b)
      go (inl a) (inr b) = absurd (not_found ns i n new a (sym (old_at i a) ∙ e ∙ new_at j b))
      go (inr a) (inl b) = absurd (not_found ns j n new b (sym (old_at j b) ∙ sym e ∙ new_at i a))
      go (inr a) (inr b) = a ∙ sym b

-- the last nodes taken off
module _ (ns : List Node) (n : ℕ) where
  short : (k : ℕ) → k < length (take n ns) → (k < n) × (k < length ns)
  short k lt = (omega (arith, length-take n ns), omega (arith, length-take n ns))

  kept_at : (k : ℕ) → k < length (take n ns) → node_at (take n ns) k ≡ node_at ns k
  kept_at k lt = get_or-take n ns k (Variable 0) (short k lt).0

  pub grounded_less : Grounded ns → Grounded (take n ns)
  grounded_less g k lt = ap (fits k) (kept_at k lt) ∙ g k (short k lt).1

  pub distinct_less : Distinct ns → Distinct (take n ns)
  distinct_less d i j (li, lj, e) = d i j ((short i li).1, (short j lj).1, sym (kept_at i li) ∙ e ∙ kept_at j lj)
