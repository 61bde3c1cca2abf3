-- The first number, and the first pair, that passes a test.
use Rattle.std.specs.Prelude.{◌≡◌, ℕ, zero, suc, ◌+◌, ◌*◌, ◌/◌, ◌%◌, ◌<◌, ◌≤◌, Bool, true, false, cond, ◌&&◌, ◌⊎◌, Some, None, Option, nat_lt, refl}
use Rattle.std.proofs.Common.{sym, ap, ap₂, subst₂, ◌∙◌, inl, inr, eq-or-lt_of_le, add-one, arith}
use Rattle.std.proofs.lemmas.Bool.{and_parts, and_right, ltb-true, lt-ltb}
use Rattle.frames.specs.Tests.{every, or_else, first, at, pair_at, first_pair, rising}
use Rattle.frames.specs.Laws.{Earlier, First}

pub below_or : (j n : ℕ) → j < suc n → (j < n) ⊎ (j ≡ n)
below_or j n h =
    let le : j ≤ n = omega arith in
    elim (eq-or-lt_of_le le) [ inl e ↦ inr e | inr lt ↦ inl lt ]

pub every_more : (d : ℕ) (p : ℕ → Bool) → every d p ≡ true → p d ≡ true → every (d + 1) p ≡ true
every_more d p all here = ap (λ n. every n p) (add-one d) ∙ ap (λ x. x && every d p) here ∙ all

pub every_fails : (n d : ℕ) (p : ℕ → Bool) → d < n → p d ≡ false → every n p ≡ false
every_fails zero d p h e = elim h [ ]
every_fails (suc n) d p h e =
    elim (below_or d n h) [
      | inl lt ↦ and_right (p n) (every n p) (every_fails n d p lt e)
      | inr q ↦ ap (λ x. x && every n p) (ap p (sym q) ∙ e)
    ]

pub every_at : (n d : ℕ) (p : ℕ → Bool) → every n p ≡ true → d < n → p d ≡ true
every_at zero d p all h = elim h [ ]
every_at (suc n) d p all h =
    let s = and_parts (p n) (every n p) all in
    elim (below_or d n h) [ inl lt ↦ every_at n d p s.1 lt | inr q ↦ ap p q ∙ s.0 ]

pub every_all : (n : ℕ) (p : ℕ → Bool) → ((d : ℕ) → d < n → p d ≡ true) → every n p ≡ true
every_all zero p h = refl
every_all (suc n) p h = ap (λ x. x && every n p) (h n (omega arith)) ∙ every_all n p (λ d lt. h d (omega arith))

or_none : (o : Option ℕ) (b : Bool) (n : ℕ) → or_else o (cond b (Some n) None) ≡ None → (o ≡ None) × (b ≡ false)
or_none (Some j) b n e = absurd (grind arith)
or_none None true n e = absurd (grind arith)
or_none None false n e = (refl, refl)

or_some : (o : Option ℕ) (b : Bool) (n k : ℕ) → or_else o (cond b (Some n) None) ≡ Some k → (o ≡ Some k) ⊎ ((o ≡ None) × (b ≡ true) × (n ≡ k))
or_some (Some j) b n k e = inl e
or_some None true n k e = inr (refl, refl, grind arith)
or_some None false n k e = absurd (grind arith)

pub first_none : (n : ℕ) (p : ℕ → Bool) → first n p ≡ None → (k : ℕ) → k < n → p k ≡ false
unfolding first
first_none zero p e k h = elim h [ ]
first_none (suc n) p e k h =
    let s = or_none (first n p) (p n) n e in
    elim (below_or k n h) [ inl lt ↦ first_none n p s.0 k lt | inr q ↦ ap p q ∙ s.1 ]

-- k is the first number below n that passes p
pub record Found (n : ℕ) (p : ℕ → Bool) (k : ℕ) : Type 0 where
  pub inside : k < n
  pub passes : p k ≡ true
  pub before : (j : ℕ) → j < k → p j ≡ false

pub first_found : (n : ℕ) (p : ℕ → Bool) (k : ℕ) → first n p ≡ Some k → Found n p k
unfolding first
first_found zero p k e = absurd (grind arith)
first_found (suc n) p k e =
    elim (or_some (first n p) (p n) n k e) [
      | inl s ↦ (let f = first_found n p k s in record { inside = omega (arith, f.inside); passes = f.passes; before = f.before })
      | inr s ↦ record {
        inside = omega (arith, s.2);
        passes = ap p (sym s.2) ∙ s.1;
        before = λ j h. first_none n p s.0 j (omega (arith, s.2));
      }
    ]

pub first_start : (p : ℕ → Bool) → first 0 p ≡ None
unfolding first
first_start p = refl

pub first_more : (k : ℕ) (p : ℕ → Bool) → first k p ≡ None → p k ≡ false → first (k + 1) p ≡ None
unfolding first
first_more k p none fails = ap (λ n. first n p) (add-one k) ∙ ap₂ (λ o b. or_else o (cond b (Some k) None)) none fails

pub first_hit : (n k : ℕ) (p : ℕ → Bool) → k < n → first k p ≡ None → p k ≡ true → first n p ≡ Some k
unfolding first
first_hit zero k p h none passes = elim h [ ]
first_hit (suc n) k p h none passes =
    elim (below_or k n h) [
      | inl lt ↦ ap (λ o. or_else o (cond (p n) (Some n) None)) (first_hit n k p lt none passes)
      | inr e ↦ ap₂ (λ o b. or_else o (cond b (Some n) None)) (ap (λ x. first x p) (sym e) ∙ none) (ap p (sym e) ∙ passes) ∙ ap Some (sym e)
    ]

place_row : (a b : ℕ) → b < 8 → (8 * a + b) / 8 ≡ a
place_row a b h = omega arith

place_column : (a b : ℕ) → b < 8 → (8 * a + b) % 8 ≡ b
place_column a b h = omega arith

pub at_place : (p : ℕ → ℕ → Bool) (a b : ℕ) → b < 8 → at p (8 * a + b) ≡ p a b
at_place p a b h = ap₂ p (place_row a b h) (place_column a b h)

third_fails : (x y z : Bool) → x ≡ true → y ≡ true → (x && (y && z)) ≡ false → z ≡ false
third_fails true true z p q e = e
third_fails true false z p q e = absurd (grind arith)
third_fails false y z p q e = absurd (grind arith)

unrisen : (n : ℕ) (p : ℕ → ℕ → Bool) (a b : ℕ) → n ≤ 8 → a < b → b < n → at (rising n p) (8 * a + b) ≡ false → p a b ≡ false
unrisen n p a b few h k e =
    third_fails (nat_lt a b) (nat_lt b n) (p a b) (lt-ltb a b h) (lt-ltb b n k) (sym (at_place (rising n p) a b (omega arith)) ∙ e)

no_pair : (o : Option ℕ) → pair_at o ≡ None → o ≡ None
no_pair None e = refl
no_pair (Some q) e = absurd (grind arith)

some_pair : (o : Option ℕ) (s : ℕ × ℕ) → pair_at o ≡ Some s → (q : ℕ) × (o ≡ Some q) × (q / 8 ≡ s.0) × (q % 8 ≡ s.1)
some_pair None s e = absurd (grind arith)
some_pair (Some q) s e = let same : (q / 8, q % 8) ≡ s = grind arith in (q, refl, ap (λ (x : ℕ × ℕ). x.0) same, ap (λ (x : ℕ × ℕ). x.1) same)

pub pair_none : (n : ℕ) (p : ℕ → ℕ → Bool) → n ≤ 8 → first_pair (rising n p) ≡ None → (a b : ℕ) → a < b → b < n → p a b ≡ false
pair_none n p few e a b h k =
    unrisen n p a b few h k (first_none 64 (at (rising n p)) (no_pair (first 64 (at (rising n p))) e) (8 * a + b) (omega arith))

place_before : (x y q : ℕ) → y < 8 → Earlier x y (q / 8) (q % 8) → 8 * x + y < q
place_before x y q h (inl lt) = omega arith
place_before x y q h (inr e) = let same = e.0 in let lt = e.1 in omega arith

pub pair_found : (n : ℕ) (p : ℕ → ℕ → Bool) (s : ℕ × ℕ) → n ≤ 8 → first_pair (rising n p) ≡ Some s → First n (λ x y. p x y ≡ false) (λ x y. p x y ≡ true) s.0 s.1
pair_found n p s few e =
    let f = some_pair (first 64 (at (rising n p))) s e in
    let q = f.0 in
    let found = first_found 64 (at (rising n p)) q f.1 in
    let t = and_parts (nat_lt (q / 8) (q % 8)) (nat_lt (q % 8) n && p (q / 8) (q % 8)) found.passes in
    let u = and_parts (nat_lt (q % 8) n) (p (q / 8) (q % 8)) t.1 in
    subst₂ (First n (λ x y. p x y ≡ false) (λ x y. p x y ≡ true)) f.2 f.3
    (record {
      rises = ltb-true (q / 8) (q % 8) t.0;
      inside = ltb-true (q % 8) n u.0;
      here = u.1;
      earlier = λ x y h k b. unrisen n p x y few h k (found.before (8 * x + y) (place_before x y q (omega arith) b));
    })

pub pair_small : (p : ℕ → ℕ → Bool) (s : ℕ × ℕ) → first_pair p ≡ Some s → (s.0 < 8) × (s.1 < 8)
pair_small p s e =
    let f = some_pair (first 64 (at p)) s e in
    let h = (first_found 64 (at p) f.0 f.1).inside in
    (omega (arith, f.2), omega (arith, f.3))
