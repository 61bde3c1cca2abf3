-- The lattices that a trial can be made in, as a script names them.
--   Site                       a lattice of numbers: its meaning, and a test for what it admits
--   sets, divisors n, frame F    the three lattices
--   site m t                     the lattice of the meaning m and the test t
--   Tells t m                    the test t tells what m admits
use Rattle.std.specs.Prelude.{ℕ, ◌^◌, Bool, nat_lt, Decides}
use Rattle.free_lattice.specs.Lattices.{Meaning}
use Rattle.lattice.specs.Sets as by_sets
use Rattle.divisors.specs.Divisors as by_divisors
use Rattle.frames.specs.Drafts.{Framed}
use Rattle.frames.specs.Order as by_frame

pub record Site : Type 1 where
  pub means : Meaning ℕ
  pub admits : ℕ → Bool

abbrev pub sets : Site
sets = record { means = by_sets.sets; admits = λ w. nat_lt w (2 ^ 64) }

abbrev pub divisors : ℕ → Site
divisors n = record { means = by_divisors.divisors n; admits = λ x. by_divisors.divides x n }

abbrev pub frame : Framed → Site
frame F = record { means = by_frame.frame F; admits = λ x. nat_lt x F.size }

abbrev pub site : Meaning ℕ → (ℕ → Bool) → Site
site m test = record { means = m; admits = test }

-- the test tells what m admits
abbrev pub Tells : (ℕ → Bool) → Meaning ℕ → Type 0
Tells test m = (x : ℕ) → Decides (test x) (m.admitted x)
