-- Lattices, and the values of terms in them.
--   Meaning E      what a lattice with elements of kind E is: which it admits, and the meet and the join of any two
--   Below m a b    a is below b: the meet of a and b is a
--   Laws m         the laws of a lattice, for the admitted elements
--   Lat            a lattice of any kind of element
--   NumLat         a lattice of natural numbers, with a test for the admitted ones
--   value m ρ t    the value of the term t, where the variable of code c has the element ρ c
--   Filling m ρ    ρ fills the variables with admitted elements
--   Fails m ρ s t  the filling ρ puts the value of s not below that of t
--   FailsIn m s t  some filling with admitted elements does
--   HoldsIn L s t  every filling with elements that L admits puts the value of s below that of t
use Rattle.std.specs.Prelude.{◌≡◌, Bool, ℕ, T}
use Rattle.free_lattice.specs.Terms.{Term, var, meet, join}

pub record Meaning (E : Type 0) : Type 1 where
  pub admitted : E → Type 0
  pub meet : E → E → E
  pub join : E → E → E

abbrev pub Below : {E : Type 0} → Meaning E → E → E → Type 0
Below m a b = m.meet a b ≡ a

pub record Laws {E : Type 0} (m : Meaning E) : Type 0 where
  pub meet_admitted : (a b : E) → m.admitted a → m.admitted b → m.admitted (m.meet a b)
  pub join_admitted : (a b : E) → m.admitted a → m.admitted b → m.admitted (m.join a b)
  pub meet_comm : (a b : E) → m.admitted a → m.admitted b → m.meet a b ≡ m.meet b a
  pub join_comm : (a b : E) → m.admitted a → m.admitted b → m.join a b ≡ m.join b a
  pub meet_assoc : (a b c : E) → m.admitted a → m.admitted b → m.admitted c → m.meet (m.meet a b) c ≡ m.meet a (m.meet b c)
  pub join_assoc : (a b c : E) → m.admitted a → m.admitted b → m.admitted c → m.join (m.join a b) c ≡ m.join a (m.join b c)
  pub meet_absorbs_join : (a b : E) → m.admitted a → m.admitted b → m.meet a (m.join a b) ≡ a
  pub join_absorbs_meet : (a b : E) → m.admitted a → m.admitted b → m.join a (m.meet a b) ≡ a

pub record Lat : Type 1 where
  pub Elem : Type 0
  pub means : Meaning Elem
  pub laws : Laws means

-- what numbers mean that pass the test
abbrev pub numbers : (ℕ → Bool) → (ℕ → ℕ → ℕ) → (ℕ → ℕ → ℕ) → Meaning ℕ
numbers admits meets joins = record { admitted = λ x. T (admits x); meet = meets; join = joins }

pub record NumLat : Type 0 where
  pub admits : ℕ → Bool
  pub meets : ℕ → ℕ → ℕ
  pub joins : ℕ → ℕ → ℕ
  pub laws : Laws (numbers admits meets joins)

abbrev pub lat : NumLat → Lat
lat N = record { Elem = ℕ; means = numbers N.admits N.meets N.joins; laws = N.laws }

abbrev pub value : {E : Type 0} → Meaning E → (ℕ → E) → Term → E
value m ρ (var c) = ρ c
value m ρ (meet s t) = m.meet (value m ρ s) (value m ρ t)
value m ρ (join s t) = m.join (value m ρ s) (value m ρ t)

abbrev pub Fails : {E : Type 0} → Meaning E → (ℕ → E) → Term → Term → Type 0
Fails m ρ s t = Below m (value m ρ s) (value m ρ t) → ⊥

abbrev pub Filling : {E : Type 0} → Meaning E → (ℕ → E) → Type 0
Filling m ρ = (c : ℕ) → m.admitted (ρ c)

abbrev pub FailsIn : {E : Type 0} → Meaning E → Term → Term → Type 0
FailsIn {E} m s t = (ρ : ℕ → E) × Filling m ρ × Fails m ρ s t

abbrev pub HoldsIn : Lat → Term → Term → Type 0
HoldsIn L s t = (ρ : ℕ → L.Elem) → Filling L.means ρ → Below L.means (value L.means ρ s) (value L.means ρ t)
