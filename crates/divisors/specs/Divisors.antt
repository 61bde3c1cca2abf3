-- The divisors of a number, with greatest common divisors and least common multiples.
--   making n                     the number whose divisors are made: n, unless it is 0
--   divides x n                  whether x is not 0 and divides n
--   gcd a b                      the greatest common divisor, by Euclid's divisions
--   lcm a b                      the least common multiple
--   divisors n                   the lattice of the divisors of n
--   GreatestCommonDivisor a b g  g divides a and b, and every number that does divides g and is at most g
--   LeastCommonMultiple a b l    a and b divide l, and every positive number that both divide is a multiple of l and at least l
use Rattle.std.specs.Prelude.{ℕ, zero, suc, ◌*◌, ◌/◌, ◌%◌, ◌<◌, ◌≤◌, Bool, cond, not, ◌&&◌, [], Ok, Err, Result, ◌==◌}
use Rattle.std.specs.Int.{◌∣◌}
use Rattle.refused.specs.Refused.{Refused, refused}
use Rattle.free_lattice.specs.Lattices.{Meaning}

abbrev pub making : ℕ → Result ℕ Refused
making n = cond (n == 0) (Err (refused 17 [])) (Ok n)

abbrev pub divides : ℕ → ℕ → Bool
divides x n = not (x == 0) && n % x == 0

-- what is left of a and b after Euclid's divisions, of which there are at most f
abbrev pub euclid : ℕ → ℕ → ℕ → ℕ
euclid zero a b = a
euclid (suc f) a zero = a
euclid (suc f) a (suc b) = euclid f (suc b) (a % suc b)

-- each division leaves less than b was, so that suc b are enough
abbrev pub gcd : ℕ → ℕ → ℕ
gcd a b = euclid (suc b) a b

abbrev pub lcm : ℕ → ℕ → ℕ
lcm a b = a / gcd a b * b

abbrev pub divisors : ℕ → Meaning ℕ
divisors n = record { admitted = λ x. x ∣ n; meet = gcd; join = lcm }

pub record GreatestCommonDivisor (a b g : ℕ) : Type 0 where
  pub divides_left : g ∣ a
  pub divides_right : g ∣ b
  pub greatest : (c : ℕ) → c ∣ a → c ∣ b → (c ∣ g) × (c ≤ g)

pub record LeastCommonMultiple (a b l : ℕ) : Type 0 where
  pub multiple_left : a ∣ l
  pub multiple_right : b ∣ l
  pub least : (c : ℕ) → 0 < c → a ∣ c → b ∣ c → (l ∣ c) × (l ≤ c)
