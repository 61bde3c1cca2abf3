-- Orders of the numbers below n in one word: the bit worth 2^(8a + b) of w says that a is below b.
-- Each notion looks at the order from below, or from above where up: then what it says of meets it says of joins.
--   le w up a b        a is below b
--   best n w up a b c  c is the greatest lower bound of a and b
--   bound n w up a b   the greatest lower bound of a and b, if there is one
--   Le F a b           a is below b in the frame F
--   frame F            the lattice that the frame F is
--   inside F a b       both are elements of the frame F
use Rattle.std.specs.Prelude.{◌≡◌, ℕ, ◌+◌, ◌*◌, ◌<◌, Bool, true, false, not, ◌&&◌, ◌||◌, is_some, Decides, Option, nat_lt}
use Rattle.std.specs.Option.{unwrap_or}
use Rattle.free_lattice.specs.Lattices.{Meaning}
use Rattle.free_lattice.specs.Bounds.{Infimum, Supremum}
use Rattle.frames.specs.Tests.{bit, every, first}
use Rattle.frames.specs.Drafts.{Framed}

unfoldable pub le : ℕ → Bool → ℕ → ℕ → Bool
le w false a b = bit w (8 * a + b)
le w true a b = bit w (8 * b + a)

-- d, if it is below a and b, is below c
abbrev pub follows : ℕ → Bool → ℕ → ℕ → ℕ → ℕ → Bool
follows w up a b c d = not (le w up d a) || (not (le w up d b) || le w up d c)

abbrev pub best : ℕ → ℕ → Bool → ℕ → ℕ → ℕ → Bool
best n w up a b c = le w up c a && (le w up c b && every n (follows w up a b c))

unfoldable pub bound : ℕ → ℕ → Bool → ℕ → ℕ → Option ℕ
bound n w up a b = first n (best n w up a b)

-- the bound where there is one; what stands where there is none does not matter
abbrev pub bound_in : ℕ → ℕ → Bool → ℕ → ℕ → ℕ
bound_in n w up a b = unwrap_or (bound n w up a b) 0

abbrev pub Le : Framed → ℕ → ℕ → Type 0
Le F a b = le F.order false a b ≡ true

abbrev pub frame : Framed → Meaning ℕ
frame F = record { admitted = λ x. x < F.size; meet = bound_in F.size F.order false; join = bound_in F.size F.order true }

abbrev pub inside : Framed → ℕ → ℕ → Bool
inside F a b = nat_lt a F.size && nat_lt b F.size

-- What the functions of a frame answer by its order, wherever the two are elements.
-- c is the greatest element below a and b
abbrev pub Greatest : Framed → ℕ → ℕ → ℕ → Type 0
Greatest F a b c = a < F.size → b < F.size → Infimum (λ x. x < F.size) (Le F) a b c

-- c is the least element above a and b
abbrev pub Least : Framed → ℕ → ℕ → ℕ → Type 0
Least F a b c = a < F.size → b < F.size → Supremum (λ x. x < F.size) (Le F) a b c

-- r says whether a is below b
abbrev pub Orders : Framed → ℕ → ℕ → Bool → Type 0
Orders F a b r = a < F.size → b < F.size → Decides r (Le F a b)

-- What makes w a lattice of the numbers below n. Each is a fact that can hold in one way only.
abbrev pub Reflexive : ℕ → ℕ → Type 0
Reflexive n w = (a : ℕ) → a < n → le w false a a ≡ true

abbrev pub Transitive : ℕ → ℕ → Type 0
Transitive n w = (a c : ℕ) (s : (b : ℕ) × (a < n) × (b < n) × (c < n) × (le w false a b ≡ true) × (le w false b c ≡ true)) → le w false a c ≡ true

abbrev pub Antisymmetric : ℕ → ℕ → Type 0
Antisymmetric n w = (a b : ℕ) (s : (a < n) × (b < n) × (le w false a b ≡ true) × (le w false b a ≡ true)) → a ≡ b

-- any two have a meet and a join
abbrev pub Complete : ℕ → ℕ → Type 0
Complete n w = (a b : ℕ) (s : (up : Bool) × (a < n) × (b < n)) → is_some (bound n w s.0 a b) ≡ true
