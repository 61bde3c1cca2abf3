-- What drawing lines and closing a draft means: a frame has the order of the chains of lines.
--   Line D a b           there is a line from a up to b
--   Lined D a b D'       D' has the lines of D, the line from a up to b, and no others
--   Chain D a b          a chain of lines leads from a to b
--   Met D a b            a and b have a greatest lower bound in that order
--   Joined D a b         a and b have a least upper bound in it
--   First n P Q a b      a is smaller than b, b below n, (a, b) is Q, and all earlier such pairs are P
--   Drawn D F            F is the lattice that D draws
--   Reason D f           D draws no lattice, for the reason f
use Rattle.std.specs.Prelude.{◌≡◌, ℕ, ◌<◌, true, false, ◌⊎◌, Decides}
use Rattle.free_lattice.specs.Bounds.{Infimum, Supremum, Order, Bounded}
use Rattle.frames.specs.declared.refusal.Refusal.{Refusal}
use Rattle.frames.specs.declared.refusal.Refusal.TheVariants.{Size, Element, Cycle, NoJoin, NoMeet}
use Rattle.frames.specs.Order.{le, frame}
use Rattle.frames.specs.Drafts.{Drafted, Framed}

-- an element of a draft
abbrev pub Elem : Drafted → ℕ → Type 0
Elem D x = x < D.size

abbrev pub Line : Drafted → ℕ → ℕ → Type 0
Line D a b = le D.lines false a b ≡ true

pub record Lined (D : Drafted) (a b : ℕ) (D' : Drafted) : Type 0 where
  pub same_size : D'.size ≡ D.size
  pub left : Elem D a
  pub right : Elem D b
  pub lines : (x y : ℕ) → Elem D x → Elem D y → Decides (le D'.lines false x y) (Line D x y ⊎ ((x ≡ a) × (y ≡ b)))

pub data Chain (D : Drafted) : ℕ → ℕ → Type 0 where
  stay : (a : ℕ) → Elem D a → Chain D a a
  line : (a b : ℕ) → Elem D a → Elem D b → Line D a b → Chain D a b
  then : (a b c : ℕ) → Chain D a b → Chain D b c → Chain D a c

-- chains lead from a to b and back
abbrev pub Cyclic : Drafted → ℕ → ℕ → Type 0
Cyclic D a b = Chain D a b × Chain D b a

abbrev pub Met : Drafted → ℕ → ℕ → Type 0
Met D a b = (c : ℕ) × Infimum (Elem D) (Chain D) a b c

abbrev pub Joined : Drafted → ℕ → ℕ → Type 0
Joined D a b = (c : ℕ) × Supremum (Elem D) (Chain D) a b c

-- pairs rise by their first number, and then by their second
abbrev pub Earlier : ℕ → ℕ → ℕ → ℕ → Type 0
Earlier x y a b = (x < a) ⊎ ((x ≡ a) × (y < b))

pub record First (n : ℕ) (P Q : ℕ → ℕ → Type 0) (a b : ℕ) : Type 0 where
  pub rises : a < b
  pub inside : b < n
  pub here : Q a b
  pub earlier : (x y : ℕ) → x < y → y < n → Earlier x y a b → P x y

pub record Drawn (D : Drafted) (F : Framed) : Type 0 where
  pub same_size : F.size ≡ D.size
  pub decides : (a b : ℕ) → Elem D a → Elem D b → Decides (le F.order false a b) (Chain D a b)
  pub lattice : Bounded (frame F) (Chain D)

-- the chains order the elements, and (a, b) is Q, the first pair without a meet and a join
abbrev pub Gap : Drafted → (ℕ → ℕ → Type 0) → ℕ → ℕ → Type 0
Gap D Q a b = Order (Elem D) (Chain D) × First D.size (λ x y. Met D x y × Joined D x y) Q a b

abbrev pub Reason : Drafted → Refusal → Type 0
Reason D Size = ⊥
Reason D Element = ⊥
Reason D (Cycle a b) = First D.size (λ x y. Cyclic D x y → ⊥) (Cyclic D) a b
Reason D (NoJoin a b) = Gap D (λ x y. Joined D x y → ⊥) a b
Reason D (NoMeet a b) = Gap D (λ x y. Joined D x y × (Met D x y → ⊥)) a b
