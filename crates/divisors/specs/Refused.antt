-- The refusal of a lattice of divisors by its number.
use Rattle.std.specs.Prelude.{[], Ok, Err, Result}
use Rattle.refused.specs.Refused.{Refused, refused}
use Rattle.divisors.specs.declared.refusal.Refusal.{Refusal}
use Rattle.divisors.specs.declared.refusal.Refusal.TheVariants.{Zero}

abbrev pub row : Refusal → Refused
row Zero = refused 17 []

-- an answer with what it gives as f sees it, and its refusal by number
abbrev pub told_as : {A B : Type 0} → (A → B) → Result A Refusal → Result B Refused
told_as f (Ok a) = Ok (f a)
told_as f (Err e) = Err (row e)
