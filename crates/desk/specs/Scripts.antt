-- What a script does to a desk, and what it answers to a program whose verbs are vs.
--   line_step vs D l     the desk after the line l, and the reply; an empty line and a comment have none
--   transcript vs D ls   the replies to the lines ls, each with a line feed behind it
use Rattle.std.specs.Prelude.{ℕ, List, [], ◌∷◌, ◌++◌, Some, None, Ok, Err, Option}
use Rattle.command.specs.declared.verb.Verb.{Verb}
use Rattle.command.specs.Commands.{Meaning, asked}
use Rattle.desk.specs.Answers.{Reply, mistaken, reply_text}
use Rattle.desk.specs.Desks.{Desked, step}

abbrev pub meaning_step : Desked → Meaning → Desked × Option Reply
meaning_step D (Ok None) = (D, None)
meaning_step D (Ok (Some c)) = ((step D c).0, Some (step D c).1)
meaning_step D (Err m) = (D, Some (mistaken m))

abbrev pub line_step : List Verb → Desked → List ℕ → Desked × Option Reply
line_step vs D l = meaning_step D (asked vs l)

abbrev pub answer_line : Option Reply → List ℕ
answer_line None = []
answer_line (Some a) = reply_text a ++ 10 ∷ []

abbrev pub transcript : List Verb → Desked → List (List ℕ) → List ℕ
transcript vs D [] = []
transcript vs D (l ∷ ls) = answer_line (line_step vs D l).1 ++ transcript vs (line_step vs D l).0 ls
