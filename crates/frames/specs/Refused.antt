-- The refusals of drafts by their numbers.
use Rattle.std.specs.Prelude.{[], ◌∷◌, Result}
use Rattle.refused.specs.Refused.{Refused, refused, told_by}
use Rattle.frames.specs.declared.refusal.Refusal.{Refusal}
use Rattle.frames.specs.declared.refusal.Refusal.TheVariants.{Size, Element, Cycle, NoJoin, NoMeet}

abbrev pub row : Refusal → Refused
row Size = refused 12 []
row Element = refused 13 []
row (Cycle a b) = refused 14 (a ∷ b ∷ [])
row (NoJoin a b) = refused 15 (a ∷ b ∷ [])
row (NoMeet a b) = refused 16 (a ∷ b ∷ [])

-- an answer with its refusal by number
abbrev pub told : {A : Type 0} → Result A Refusal → Result A Refused
told = told_by row
