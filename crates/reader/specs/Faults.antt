-- The faults of reading by their numbers, each with its place and its layer.
use Rattle.std.specs.Prelude.{ℕ, List, ◌++◌, Ok, Err, codes, decimal, Result}
use Rattle.reader.specs.declared.fault.Fault.{Fault}
use Rattle.reader.specs.declared.fault.Layer.{Layer}
use Rattle.reader.specs.declared.fault.Layer.TheVariants.{Cutter, Reader, Sheet}
use Rattle.reader.specs.declared.fault.Cause.{Cause}
use Rattle.reader.specs.declared.fault.Cause.TheVariants.{NoToken, BadNumber, Unfinished, Misplaced, TooDeep, TooShort, Trailing, Full}

pub record Row : Type 0 where
  pub number : ℕ
  pub place : ℕ
  pub layer : Layer

abbrev pub number_of : Cause → ℕ
number_of NoToken = 1
number_of BadNumber = 2
number_of Unfinished = 3
number_of Misplaced = 4
number_of TooDeep = 5
number_of TooShort = 6
number_of Trailing = 7
number_of Full = 8

abbrev pub row : Fault → Row
row f = record { number = number_of f.cause; place = f.place; layer = f.layer }

-- an answer with its fault by number
abbrev pub told : {A : Type 0} → Result A Fault → Result A Row
told (Ok a) = Ok a
told (Err f) = Err (row f)

-- fault n at the place p, found by one of the layers
abbrev pub by_cutter : ℕ → ℕ → Row
by_cutter n p = record { number = n; place = p; layer = Cutter }

abbrev pub by_reader : ℕ → ℕ → Row
by_reader n p = record { number = n; place = p; layer = Reader }

abbrev pub by_sheet : ℕ → ℕ → Row
by_sheet n p = record { number = n; place = p; layer = Sheet }

abbrev pub layer_text : Layer → List ℕ
layer_text Cutter = codes "cutter"
layer_text Reader = codes "reader"
layer_text Sheet = codes "sheet"

abbrev pub text : Row → List ℕ
text f = decimal f.number ++ (codes " at " ++ (decimal f.place ++ (codes " in " ++ layer_text f.layer)))
