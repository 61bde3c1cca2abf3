-- What std's searches over the numbers below n answer, where the closure is a test.
use Rattle.std.proofs.Common.{◌≡◌, ℕ, ◌+◌, ◌-◌, ◌/◌, ◌%◌, ◌≤◌, ◌<◌, Bool, true, false, List, [], ◌∷◌, ◌++◌, subst, map, length, get_or, Some, None, Option, zero, suc, refl, sym, ap, ◌∙◌, add-one, arith}
use Rattle.std.specs.Bool.{⊤, MatchBool}
use Rattle.std.specs.Fn.{Called, CalledAt}
use Rattle.std.specs.Iterator.{AlwaysYields, YieldsThen, Drains}
use Rattle.std.specs.List.{range_with_len, FoldsTo, AllWithin, HoldsAt}
use Rattle.std.specs.Option.{MatchOption}
use Rattle.std.specs.declared.ops.Range.{Range}
use Rattle.std.proofs.iter.Yields.{nat_range_steps, Range-gives}
use Rattle.std.proofs.lemmas.Iterator.{YieldsList, YieldsList-from_range, cases_from_all, first_from_find, first_from_Range}
use Rattle.std.proofs.lemmas.Fn.{fold_over}
use Rattle.std.proofs.lemmas.List.{length_push, get_or_push, get_or_append_left}
use Rattle.std.proofs.lemmas.List.FromFn.{length-range_with_len, get_or-range_with_len, length-map-range_with_len, get_or-map-range_with_len}
use denote.Param.Members.{Mut}
use denote.Ref.{Bor}
use Rattle.frames.specs.Tests.{every, first, at, pair_at, first_pair}
use Rattle.frames.specs.Finding.{every_all, every_fails, first_start, first_more, first_hit}

nth : (n k : ℕ) → k < n → get_or (range_with_len 0 n) k 0 ≡ k
nth n k h = omega (arith, get_or-range_with_len 0 n k 0 h)

every_by : (n : ℕ) (p : ℕ → Bool) (r : Bool)
    → MatchBool r (AllWithin (λ x. x < n → p x ≡ true) (range_with_len 0 n) 0 (length (range_with_len 0 n)))
    ((k : ℕ) × (k < length (range_with_len 0 n)) × HoldsAt (λ x. x < n → p x ≡ false) (range_with_len 0 n) k)
    → r ≡ every n p
every_by n p true h =
    sym (every_all n p (λ d lt. ap p (sym (nth n d lt)) ∙ h d 0 (omega arith) (omega (arith, length-range_with_len 0 n)) (omega (arith, nth n d lt))))
every_by n p false h =
    let lt : h.0 < n = omega (arith, h.1, length-range_with_len 0 n) in
    sym (every_fails n h.0 p lt (ap p (sym (nth n h.0 lt)) ∙ h.2 0 (omega (arith, nth n h.0 lt))))

-- `all`
pub every_of_all : {F : Type 0} {g : Mut F (ℕ × Unit {0}) Bool} (n : ℕ) (p : ℕ → Bool) (u : Range ℕ) (f : F) (r : Bool)
    → (xs : List ℕ) × (o : Option ℕ) × (j : F) × YieldsThen nat_range_steps (record { start = 0; end = n }) xs o u
    × FoldsTo (λ p x q. Called g p (x, tt) true q) f xs j × MatchOption o (r ≡ true) (λ x. (r ≡ false) × ((h : F) × Called g j (x, tt) false h))
    → ((x : ℕ) (b : Bool) (q : F) → Called g f (x, tt) b q → (q ≡ f) × (x < n → b ≡ p x)) → r ≡ every n p
every_of_all n p u f r ran says =
    every_by n p r
    (cases_from_all u f r (λ x. x < n → p x ≡ true) (λ x. x < n → p x ≡ false) ran (YieldsList-from_range 0 n n refl (omega arith))
    (λ x q k. let s = says x true q k in (s.0, λ h. sym (s.1 h))) (λ x q k h. sym ((says x false q k).1 h)))

first_fails : (n : ℕ) (p : ℕ → Bool) → ((k : ℕ) → k < n → p k ≡ false) → first n p ≡ None
first_fails zero p h = first_start p
first_fails (suc n) p h = ap (λ m. first m p) (sym (add-one n)) ∙ first_more n p (first_fails n p (λ k lt. h k (omega arith))) (h n (omega arith))

first_by : (n : ℕ) (p : ℕ → Bool) (r : Option ℕ)
    → MatchOption r ((k : ℕ) → 0 ≤ k → k < n → k < n → p k ≡ false) (λ i. (0 ≤ i) × (i < n) × (i < n → p i ≡ true) × ((k : ℕ) → 0 ≤ k → k < i → k < n → p k ≡ false))
    → r ≡ first n p
first_by n p None h = sym (first_fails n p (λ k lt. h k (omega arith) lt lt))
first_by n p (Some i) h = sym (first_hit n i p h.1 (first_fails i p (λ k lt. h.3 k (omega arith) lt (omega (arith, h.1)))) (h.2 h.1))

-- `find`
pub first_of_find : {F : Type 0} {g : Mut F (Bor ℕ × Unit {0}) Bool} (n : ℕ) (p : ℕ → Bool) (u : Range ℕ) (f : F) (r : Option ℕ)
    → (xs : List ℕ) × (j : F) × YieldsThen nat_range_steps (record { start = 0; end = n }) xs r u
    × FoldsTo (λ p x q. CalledAt g p x false q) f xs j × MatchOption r ⊤ (λ x. (h : F) × CalledAt g j x true h)
    → ((x : ℕ) (b : Bool) (q : F) → CalledAt g f x b q → (q ≡ f) × (x < n → b ≡ p x)) → r ≡ first n p
first_of_find n p u f r ran says =
    first_by n p r
    (first_from_Range (record { start = 0; end = n }) u f r (λ x. x < n → p x ≡ true) (λ x. x < n → p x ≡ false) ran
    (λ x q k h. sym ((says x true q k).1 h)) (λ x q k. let s = says x false q k in (s.0, λ h. sym (s.1 h))))

module _ (p : ℕ → ℕ → Bool) where
  -- p answers r at the pair s, if that is one of numbers below 8
  abbrev Passes : Bool → ℕ × ℕ → Type 0
  Passes r s = s.0 < 8 → s.1 < 8 → p s.0 s.1 ≡ r

  abbrev by_place : ℕ → ℕ × ℕ
  by_place q = (q / 8, q % 8)

  abbrev pairs : List (ℕ × ℕ)
  pairs = map by_place (range_with_len 0 64)

  long : length pairs ≡ 64
  long = length-map-range_with_len by_place 0 64

  nth_pair : (q : ℕ) → q < 64 → get_or pairs q (0, 0) ≡ by_place q
  nth_pair q h = get_or-map-range_with_len by_place 0 64 q q (0, 0) h (omega arith)

  at_nth : (r : Bool) (q : ℕ) → q < 64 → Passes r (get_or pairs q (0, 0)) → at p q ≡ r
  at_nth r q h says = (subst (Passes r) (nth_pair q h) says) (omega arith) (omega arith)

  pair_by : (r : Option (ℕ × ℕ))
      → MatchOption r (AllWithin (Passes false) pairs 0 (length pairs))
      (λ s. Passes true s × (i : ℕ) × (i < length pairs) × HoldsAt (λ y. y ≡ s) pairs i × AllWithin (Passes false) pairs 0 i)
      → r ≡ first_pair p
  pair_by None h = ap pair_at (sym (first_fails 64 (at p) (λ k lt. at_nth false k lt (h k (0, 0) (omega arith) (omega (arith, long))))))
  pair_by (Some s) h =
      let i = h.1 in
      let lt : i < 64 = omega (arith, h.2, long) in
      let here : get_or pairs i (0, 0) ≡ s = h.3 (0, 0) in
      let hit : first 64 (at p) ≡ Some i =
      first_hit 64 i (at p) lt (first_fails i (at p) (λ k l. at_nth false k (omega arith) (h.4 k (0, 0) (omega arith) l))) (at_nth true i lt (subst (Passes true) (sym here) h.0)) in
      ap Some (sym here ∙ nth_pair i lt) ∙ ap pair_at (sym hit)

  -- `find` over the pairs by their places
  pub pair_of_find : {S F : Type 0} {steps : S → Option (ℕ × ℕ) → S → Type 0} {g : Mut F (Bor (ℕ × ℕ) × Unit {0}) Bool} {s : S} (u : S) (f : F) (r : Option (ℕ × ℕ))
      → (xs : List (ℕ × ℕ)) × (j : F) × YieldsThen steps s xs r u × FoldsTo (λ p x q. CalledAt g p x false q) f xs j × MatchOption r ⊤ (λ x. (h : F) × CalledAt g j x true h)
      → YieldsList steps (λ x. x) s (map (λ q. (q / 8, q % 8)) (range_with_len 0 64))
      → ((x : ℕ × ℕ) (b : Bool) (q : F) → CalledAt g f x b q → (q ≡ f) × (x.0 < 8 → x.1 < 8 → b ≡ p x.0 x.1)) → r ≡ first_pair p
  pair_of_find u f r ran yields says =
      pair_by r
      (first_from_find u f r (Passes true) (Passes false) ran yields
      (λ x q k a b. sym ((says x true q k).1 a b)) (λ x q k. let t = says x false q k in (t.0, λ a b. sym (t.1 a b))))

-- K holds of what was kept over the numbers in ys, if these are the first ones below n
Counted : {C : Type 0} → ℕ → (ℕ → C → Type 0) → List ℕ → C → Type 0
Counted n K ys a = ((i : ℕ) → i < length ys → get_or ys i 0 ≡ i) → length ys ≤ n → K (length ys) a

counted_more : {C : Type 0} (n : ℕ) (K : ℕ → C → Type 0) (ys : List ℕ) (x : ℕ) (a b : C) → (x < n → K x a → K (x + 1) b) → Counted n K ys a → Counted n K (ys ++ x ∷ []) b
unfolding Counted
counted_more n K ys x a b next before at few =
    let long : length (ys ++ x ∷ []) ≡ length ys + 1 = length_push ys x in
    let here : x ≡ length ys = sym (get_or_push ys x 0 (length ys) refl) ∙ at (length ys) (omega arith) in
    let kept : K (length ys) a = before (λ i lt. sym (get_or_append_left ys (x ∷ []) 0 i lt) ∙ at i (omega arith)) (omega arith) in
    subst (λ m. K m b) (sym long) (subst (λ m. K (m + 1) b) here (next (omega arith) (subst (λ m. K m a) (sym here) kept)))

-- `fold` keeps what each turn keeps
pub kept_of_fold : {F C : Type 0} {g : Mut F (C × (ℕ × Unit {0})) C} (n : ℕ) (K : ℕ → C → Type 0) (f : F) (a r : C)
    → (xs : List ℕ) × (f' : F) × Drains nat_range_steps (record { start = 0; end = n }) xs × FoldsTo {P = F × C} (λ p x q. Called g p.0 (p.1, (x, tt)) q.1 q.0) (f, a) xs (f', r)
    → K 0 a → ((x : ℕ) (w v : C) (q : F) → Called g f (w, (x, tt)) v q → (q ≡ f) × (x < n → K x w → K (x + 1) v)) → K n r
unfolding Counted
kept_of_fold {g = g} n K f a r ran first next =
    let long : length (range_with_len 0 n) ≡ n = length-range_with_len 0 n in
    let whole : n - 0 ≡ n = omega arith in
    let all : Counted n K (range_with_len 0 n) r =
    fold_over nat_range_steps (λ x. x) g (Counted n K) f (λ ys w x v q before k. let t = next x w v q k in (counted_more n K ys x w v t.1 before, t.0))
    (record { start = 0; end = n }) (range_with_len 0 n) a r
    (subst (λ m. AlwaysYields nat_range_steps {B = ℕ} (λ x. x) (record { start = 0; end = n }) (range_with_len 0 m)) whole (Range-gives (record { start = 0; end = n }))) (λ _ _. first) ran in
    subst (λ m. K m r) long (all (λ i lt. nth n i (omega arith)) (omega arith))
