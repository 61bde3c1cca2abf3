-- Texts that name a variable.
--   variable_code text   the code of the variable that the text is: its one token, as the cutter cuts it
--   Names text c         the text spells the variable of code c, and nothing else
--   Naming text r        r is the code that the text names, if it names one
use Rattle.std.specs.Prelude.{◌≡◌, ℕ, List, [], ◌∷◌, drop, Some, None, Ok, Err, Option, Result}
use Rattle.reader.specs.declared.token.Kind.{Kind}
use Rattle.reader.specs.declared.token.Kind.TheVariants.{Open, Close, Plus, Star, Variable}
use Rattle.reader.specs.declared.token.Token.{Token}
use Rattle.reader.specs.Faults.{Row}
use Rattle.reader.specs.Cutting.{cut, behind}
use Rattle.reader.specs.Grammar.{Spelled}

abbrev pub code : Kind → Option ℕ
code Open = None
code Close = None
code Plus = None
code Star = None
code (Variable c) = Some c

-- the code of a first token, where no second one follows
abbrev pub alone : Result (Option Token) Row → Result (Option Token) Row → Option ℕ
alone (Err f) r = None
alone (Ok None) r = None
alone (Ok (Some t)) (Err f) = None
alone (Ok (Some t)) (Ok None) = code t.kind
alone (Ok (Some t)) (Ok (Some u)) = None

abbrev pub variable_code : List ℕ → Option ℕ
variable_code text = alone (cut 0 text) (cut (behind 0 text) (drop (behind 0 text) text))

abbrev pub Names : List ℕ → ℕ → Type 0
Names text c = Spelled text (Variable c ∷ [])

abbrev pub Naming : List ℕ → Option ℕ → Type 0
Naming text r = (c : ℕ) → (r ≡ Some c → Names text c) × (Names text c → r ≡ Some c)
