-- The bits of words.
use Rattle.std.proofs.Common.{◌≡◌, ℕ, zero, suc, ◌+◌, ◌-◌, ◌*◌, ◌/◌, ◌%◌, ◌^◌, ◌<◌, ◌≤◌, max, Bool, true, false, cond, ◌||◌, eqb, ◌⊎◌, Decides, sym, refl, ap, ◌∙◌, inl, inr, eq-or-lt_of_le, add-one, arith}
use Rattle.std.specs.Int.Bits.{or_zero_r}
use Rattle.std.specs.Int.{from_bool, bit_at}
use native.Mathlib.Nat.{add-mul-div_left, add-mul-mod_self_left}
use lib.Bits.{bit_or, or_shifted_r}
use Rattle.std.proofs.lemmas.Nat.{pow_pos, pow-add, one_shl, div-mul-add}
use Rattle.std.proofs.lemmas.Bool.{both_ways, cases_eq}
use Rattle.std.proofs.lemmas.Nat.Bits.{bit_at-zero, bit_at_or, bit_at-pow_same, bit_at-pow_other}
use Rattle.std.proofs.lemmas.Bool.Decides.{nat_tests, Decides-at, Decides-or, Decides-like}
use Rattle.frames.specs.Tests.{bit, at, word_below, word}
use Rattle.frames.specs.Order.{le}
use Rattle.frames.specs.Finding.{at_place}

pub word_lt : (k : ℕ) (p : ℕ → Bool) → word_below k p < 2 ^ k
unfolding word_below
word_lt zero p = omega arith
word_lt (suc k) p = by (p k) (word_lt k p)
  where
    two : 2 ^ suc k ≡ 2 * 2 ^ k
    two = let e : suc k ≡ 1 + k = omega arith in ap (λ x. 2 ^ x) e ∙ pow-add 2 1 k

    by : (b : Bool) → word_below k p < 2 ^ k → word_below k p + cond b (2 ^ k) 0 < 2 ^ suc k
    by true h = omega (arith, two)
    by false h = omega (arith, two)

pub word_next : (k : ℕ) (p : ℕ → Bool) → word_below (k + 1) p ≡ word_below k p + cond (p k) (2 ^ k) 0
unfolding word_below
word_next k p = ap (λ n. word_below n p) (add-one k)

-- a turn of the fold that makes a word, where the test of k answers t
pub word_or : (k : ℕ) (p : ℕ → Bool) (w v : ℕ) (t : Bool) → k < 64 → w ≡ word_below k p → t ≡ p k → v ≡ bit_or w ((from_bool t * 2 ^ k) % 2 ^ 64) → v ≡ word_below (k + 1) p
word_or k p w v true h e test is =
    let lt : w < 2 ^ k = omega (arith, word_lt k p) in
    let one : 1 * 2 ^ k ≡ 2 ^ k = omega arith in
    is ∙ ap (bit_or w) (one_shl k 64 h ∙ sym one) ∙ or_shifted_r 1 k w lt ∙ omega (arith, word_next k p, ap (λ b. cond b (2 ^ k) 0) (sym test))
word_or k p w v false h e test is =
    let none : (0 * 2 ^ k) % 2 ^ 64 ≡ 0 = omega arith in
    is ∙ ap (bit_or w) none ∙ or_zero_r w ∙ omega (arith, word_next k p, ap (λ b. cond b (2 ^ k) 0) (sym test))

same_bit : (w t q : ℕ) → bit (w + 2 ^ q * (2 * t)) q ≡ bit w q
same_bit w t q = ap (λ x. eqb x 1) (ap (λ x. x % 2) (add-mul-div_left w (2 * t) (pow_pos q)) ∙ add-mul-mod_self_left (w / 2 ^ q) 2 t)

top_bit : (w q : ℕ) (b : Bool) → w < 2 ^ q → bit (w + cond b (2 ^ q) 0) q ≡ b
top_bit w q true h = ap (λ x. eqb (x % 2) 1) (ap (λ x. x / 2 ^ q) (omega arith) ∙ div-mul-add 1 (2 ^ q) w h)
top_bit w q false h = ap (λ x. eqb (x % 2) 1) (ap (λ x. x / 2 ^ q) (omega arith) ∙ div-mul-add 0 (2 ^ q) w h)

low_bit : (w q k : ℕ) (b : Bool) → q < k → bit (w + cond b (2 ^ k) 0) q ≡ bit w q
low_bit w q k true h =
    let s : k ≡ q + (1 + (k - (q + 1))) = omega arith in
    let e : 2 ^ k ≡ 2 ^ q * (2 * 2 ^ (k - (q + 1))) =
    ap (λ x. 2 ^ x) s ∙ pow-add 2 q (1 + (k - (q + 1))) ∙ ap (λ x. 2 ^ q * x) (pow-add 2 1 (k - (q + 1))) in
    ap (λ x. bit (w + x) q) e ∙ same_bit w (2 ^ (k - (q + 1))) q
low_bit w q k false h = ap (λ x. bit x q) (omega arith)

pub bit_word : (k q : ℕ) (p : ℕ → Bool) → q < k → bit (word_below k p) q ≡ p q
unfolding word_below
bit_word zero q p h = elim h [ ]
bit_word (suc k) q p h =
    let l : q ≤ k = omega arith in
    elim (eq-or-lt_of_le l) [
      | inl e ↦ ap (bit (word_below (suc k) p)) e ∙ top_bit (word_below k p) k (p k) (word_lt k p) ∙ ap p (sym e)
      | inr lt ↦ low_bit (word_below k p) q k (p k) lt ∙ bit_word k q p lt
    ]

-- the bit at a place, from what a shift that wraps gave
pub bit_read : (w a b x : ℕ) → a < 8 → b < 8 → x ≡ w / 2 ^ ((8 * a + b) % 64) → eqb (x % 2) 1 ≡ bit w (8 * a + b)
bit_read w a b x h k e =
    let place : (8 * a + b) % 64 ≡ 8 * a + b = omega arith in
    ap (λ y. eqb (y % 2) 1) (e ∙ ap (λ q. w / 2 ^ q) place)

-- a power of two has one bit
pow_bit : (k q : ℕ) → Decides (bit (2 ^ k) q) (q ≡ k)
pow_bit k q =
    elim (cases_eq q k) [
      | inl e ↦ (λ _. e, λ _. ap (λ x. eqb x 1) (ap (bit_at (2 ^ k)) e ∙ bit_at-pow_same k))
      | inr ne ↦ (λ t. absurd (both_ways _ (ap (λ x. eqb x 1) (bit_at-pow_other k q ne)) t), λ e. absurd (ne e))
    ]

either_bit : (x y : ℕ) → eqb (max (x % 2) (y % 2)) 1 ≡ (eqb (x % 2) 1 || eqb (y % 2) 1)
either_bit x y = grind (arith, nat_tests)

or_bit : (a b q : ℕ) → bit (bit_or a b) q ≡ (bit a q || bit b q)
or_bit a b q = ap (λ x. eqb x 1) (bit_at_or a b q) ∙ either_bit (a / 2 ^ q) (b / 2 ^ q)

pub le_none : (a b : ℕ) → le 0 false a b ≡ false
unfolding le
le_none a b = ap (λ x. eqb x 1) (bit_at-zero (8 * a + b))

-- the lines of w and one more
pub le_or : (w a b x y : ℕ) → b < 8 → y < 8 → Decides (le (bit_or w (2 ^ (8 * a + b))) false x y) ((le w false x y ≡ true) ⊎ ((x ≡ a) × (y ≡ b)))
unfolding le
le_or w a b x y h k =
    let q = 8 * x + y in
    Decides-at (bit (bit_or w (2 ^ (8 * a + b))) q) (bit w q || bit (2 ^ (8 * a + b)) q) (or_bit w (2 ^ (8 * a + b)) q)
    (Decides-or (bit w q) (bit (2 ^ (8 * a + b)) q) (λ e. e, λ e. e)
    (Decides-like (bit (2 ^ (8 * a + b)) q) (λ e. (omega arith, omega arith)) (λ e. let p = e.0 in let r = e.1 in omega arith) (pow_bit (8 * a + b) q)))

-- a is below b in the word of the pairs that pass p, where they pass
pub le_word : (p : ℕ → ℕ → Bool) (a b : ℕ) → a < 8 → b < 8 → le (word p) false a b ≡ p a b
unfolding le
le_word p a b ha hb = bit_word 64 (8 * a + b) (at p) (omega arith) ∙ at_place p a b hb

pub word_none : (p : ℕ → Bool) → 0 ≡ word_below 0 p
unfolding word_below
word_none p = refl
