-- The first words of the commands, and the forms of the commands.
use Rattle.std.specs.Prelude.{ℕ, List, [], ◌∷◌, codes, Option, find}
use Rattle.std.specs.Str.{bytes_eq}
use Rattle.command.specs.declared.verb.Verb.{Verb}
use Rattle.command.specs.declared.verb.Verb.TheVariants.{Enter, Read, Blank, Draft, Line, Close, Try}

-- the first word of the command
abbrev pub word : Verb → List ℕ
word Enter = codes "enter"
word Read = codes "read"
word Blank = codes "blank"
word Draft = codes "draft"
word Line = codes "line"
word Close = codes "close"
word Try = codes "try"

-- every verb
abbrev pub all : List Verb
all = Enter ∷ Read ∷ Blank ∷ Draft ∷ Line ∷ Close ∷ Try ∷ []

-- the first of the verbs vs whose word w is
abbrev pub verb_of : List Verb → List ℕ → Option Verb
verb_of vs w = find (λ v. bytes_eq w (word v)) vs

-- the form of the command
abbrev pub form : Verb → List ℕ
form Enter = codes "enter CODE | enter meet A B | enter join A B"
form Read = codes "read TEXT"
form Blank = codes "blank"
form Draft = codes "draft N"
form Line = codes "line A B"
form Close = codes "close"
form Try = codes "try sets U V SLOTS | try divisors D U V SLOTS | try frame U V SLOTS"
