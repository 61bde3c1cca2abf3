-- Lattices whose elements are numbers, as lattices of numbers.
--   Numbering E    how the elements of kind E are the numbers
--   themselves     how the numbers are
--   wide i m       the meaning m of elements that are numbers by i, as a meaning of numbers
use Rattle.std.specs.Prelude.{◌≡◌, ℕ, refl}
use Rattle.free_lattice.specs.Lattices.{Meaning}

pub record Numbering (E : Type 0) : Type 0 where
  pub number : E → ℕ
  pub element : ℕ → E
  pub same_number : (x : ℕ) → number (element x) ≡ x
  pub same_element : (e : E) → element (number e) ≡ e

abbrev pub themselves : Numbering ℕ
themselves = record { number = λ x. x; element = λ x. x; same_number = λ x. refl; same_element = λ x. refl }

abbrev pub wide : {E : Type 0} → Numbering E → Meaning E → Meaning ℕ
wide i m =
    record {
      admitted = λ x. m.admitted (i.element x);
      meet = λ x y. i.number (m.meet (i.element x) (i.element y));
      join = λ x y. i.number (m.join (i.element x) (i.element y));
    }
