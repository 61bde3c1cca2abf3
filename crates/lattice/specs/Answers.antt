-- What the functions of a lattice answer, by its meaning, wherever the two elements are admitted; elsewhere the answer is free.
use Rattle.std.specs.Prelude.{◌≡◌, Bool, Decides}
use Rattle.free_lattice.specs.Lattices.{Meaning, Below}

-- x is the meet of a and b
abbrev pub Meets : {E : Type 0} → Meaning E → E → E → E → Type 0
Meets m a b x = m.admitted a → m.admitted b → x ≡ m.meet a b

-- x is the join of a and b
abbrev pub Joins : {E : Type 0} → Meaning E → E → E → E → Type 0
Joins m a b x = m.admitted a → m.admitted b → x ≡ m.join a b

-- x says whether a is below b
abbrev pub Compares : {E : Type 0} → Meaning E → E → E → Bool → Type 0
Compares m a b x = m.admitted a → m.admitted b → Decides x (Below m a b)
