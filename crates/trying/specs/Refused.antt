-- The refusals of trying by their numbers.
use Rattle.std.specs.Prelude.{[], ◌∷◌, Result}
use Rattle.refused.specs.Refused.{Refused, refused, told_by}
use Rattle.trying.specs.declared.refusal.Refusal.{Refusal}
use Rattle.trying.specs.declared.refusal.Refusal.TheVariants.{NoNode, FewSlots, Unadmitted}

abbrev pub row : Refusal → Refused
row (NoNode k) = refused 9 (k ∷ [])
row FewSlots = refused 18 []
row (Unadmitted k) = refused 19 (k ∷ [])

-- an answer with its refusal by number
abbrev pub told : {A : Type 0} → Result A Refusal → Result A Refused
told = told_by row
