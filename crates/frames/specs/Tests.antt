-- Tests of numbers and of pairs of numbers below 8, and words with a bit for each pair. The pair (a, b) has the place 8a + b.
--   every n p      all numbers below n pass p
--   first n p      the first number below n that passes p
--   first_pair p   the first pair that passes p, where pairs rise by a, and then by b
--   word p         the word whose bit at the place of a pair says whether it passes p
--   bit w k        the bit of w that is worth 2^k
--   rising n p     passed by pairs of numbers below n, the smaller first, that pass p
--   Says G p       p a b is the one answer that G gives to the pair (a, b)
use Rattle.std.specs.Prelude.{◌≡◌, ◌<◌, ℕ, zero, suc, ◌+◌, ◌/◌, ◌%◌, ◌^◌, Bool, true, cond, ◌&&◌, Some, None, Option, ◌==◌, nat_lt}

abbrev pub every : ℕ → (ℕ → Bool) → Bool
every zero p = true
every (suc n) p = p n && every n p

abbrev pub or_else : Option ℕ → Option ℕ → Option ℕ
or_else (Some k) o = Some k
or_else None o = o

unfoldable pub first : ℕ → (ℕ → Bool) → Option ℕ
first zero p = None
first (suc n) p = or_else (first n p) (cond (p n) (Some n) None)

-- the test of the pair at a place
abbrev pub at : (ℕ → ℕ → Bool) → ℕ → Bool
at p q = p (q / 8) (q % 8)

abbrev pub pair_at : Option ℕ → Option (ℕ × ℕ)
pair_at (Some q) = Some (q / 8, q % 8)
pair_at None = None

abbrev pub first_pair : (ℕ → ℕ → Bool) → Option (ℕ × ℕ)
first_pair p = pair_at (first 64 (at p))

-- the word of the numbers below k that pass p
unfoldable pub word_below : ℕ → (ℕ → Bool) → ℕ
word_below zero p = 0
word_below (suc k) p = word_below k p + cond (p k) (2 ^ k) 0

abbrev pub word : (ℕ → ℕ → Bool) → ℕ
word p = word_below 64 (at p)

abbrev pub bit : ℕ → ℕ → Bool
bit w k = w / 2 ^ k % 2 == 1

abbrev pub rising : ℕ → (ℕ → ℕ → Bool) → ℕ → ℕ → Bool
rising n p a b = nat_lt a b && (nat_lt b n && p a b)

abbrev pub Says : (ℕ → ℕ → Bool → Type 0) → (ℕ → ℕ → Bool) → Type 0
Says G p = (a b : ℕ) (r : Bool) → a < 8 → b < 8 → G a b r → r ≡ p a b
