-- Orders with greatest lower and least upper bounds.
--   Infimum P le a b c    among the elements that are P, c is the greatest lower bound of a and b in the order le
--   Supremum P le a b c   among them, c is the least upper bound
--   Order P le            le orders the elements that are P
--   Bounded m le          le orders the admitted elements, and meets and joins are greatest lower and least upper bounds
use Rattle.std.specs.Prelude.{◌≡◌}
use Rattle.free_lattice.specs.Lattices.{Meaning}

pub record Infimum {E : Type 0} (P : E → Type 0) (le : E → E → Type 0) (a b c : E) : Type 0 where
  pub among : P c
  pub lower_left : le c a
  pub lower_right : le c b
  pub greatest : (d : E) → P d → le d a → le d b → le d c

-- the order seen from above
abbrev pub turned : {E : Type 0} → (E → E → Type 0) → E → E → Type 0
turned le a b = le b a

abbrev pub Supremum : {E : Type 0} → (E → Type 0) → (E → E → Type 0) → E → E → E → Type 0
Supremum P le = Infimum P (turned le)

pub record Order {E : Type 0} (P : E → Type 0) (le : E → E → Type 0) : Type 0 where
  pub reflexive : (a : E) → P a → le a a
  pub transitive : (a b c : E) → P a → P b → P c → le a b → le b c → le a c
  pub antisymmetric : (a b : E) → P a → P b → le a b → le b a → a ≡ b

pub record Bounded {E : Type 0} (m : Meaning E) (le : E → E → Type 0) : Type 0 where
  pub order : Order m.admitted le
  pub infima : (a b : E) → m.admitted a → m.admitted b → Infimum m.admitted le a b (m.meet a b)
  pub suprema : (a b : E) → m.admitted a → m.admitted b → Supremum m.admitted le a b (m.join a b)
