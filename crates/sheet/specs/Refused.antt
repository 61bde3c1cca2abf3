-- The refusals of the sheet by their numbers.
use Rattle.std.specs.Prelude.{[], ◌∷◌, Ok, Err, Result}
use Rattle.refused.specs.Refused.{Refused, refused}
use Rattle.sheet.specs.declared.refusal.Refusal.{Refusal}
use Rattle.sheet.specs.declared.refusal.Refusal.TheVariants.{Full, NoNode, BadCode}

abbrev pub row : Refusal → Refused
row Full = refused 8 []
row (NoNode k) = refused 9 (k ∷ [])
row BadCode = refused 10 []

-- an answer with its refusal by number
abbrev pub told : {A : Type 0} → Result A Refusal → Result A Refused
told (Ok a) = Ok a
told (Err f) = Err (row f)
