-- What a script does to a sheet, and what it answers.
--   verbs              the verbs that the program has
--   step S c           the sheet after the call c, and the reply
--   line_step S l      the same for the bytes of a line; an empty line and a comment have no reply
--   transcript S ls    the replies to the lines ls, each with a line feed behind it
use Rattle.std.specs.Prelude.{ℕ, List, [], ◌∷◌, ◌++◌, Some, None, Ok, Err, Option}
use Rattle.sheet.specs.State.{State, blank}
use Rattle.sheet.specs.Enter.{entering}
use Rattle.reader.specs.Reading.{reading}
use Rattle.command.specs.declared.verb.Verb.{Verb}
use Rattle.command.specs.declared.verb.Verb.TheVariants.{Enter, Read, Blank}
use Rattle.command.specs.Commands.{Call, enters, reads, blanks, drafts, relates, closes, tries, Meaning, asked}
use Rattle.desk.specs.Answers.{Reply, node, blanked, unknown, mistaken}
use Rattle.desk.specs.Desks.{granted, read_reply}
use Rattle.desk.specs.Scripts.{answer_line}

abbrev pub verbs : List Verb
verbs = Enter ∷ Read ∷ Blank ∷ []

-- the last four have no verb here
abbrev pub step : State → Call → State × Reply
step S (enters n) = ((entering S n).0, granted node (entering S n).1)
step S (reads text) = ((reading S text).0, read_reply (reading S text).1)
step S blanks = (blank, blanked)
step S (drafts n) = (S, unknown)
step S (relates a b) = (S, unknown)
step S closes = (S, unknown)
step S (tries t) = (S, unknown)

abbrev pub meaning_step : State → Meaning → State × Option Reply
meaning_step S (Ok None) = (S, None)
meaning_step S (Ok (Some c)) = ((step S c).0, Some (step S c).1)
meaning_step S (Err m) = (S, Some (mistaken m))

abbrev pub line_step : State → List ℕ → State × Option Reply
line_step S l = meaning_step S (asked verbs l)

abbrev pub transcript : State → List (List ℕ) → List ℕ
transcript S [] = []
transcript S (l ∷ ls) = answer_line (line_step S l).1 ++ transcript (line_step S l).0 ls
