-- The replies to the commands of a script, and the text of each.
--   Reply          what a line is answered, refusals by number
--   mistaken m     the reply that a line's mistake is
--   answered a     the reply that an answer is
--   erred e        the reply that an error is
--   replied r      the reply that an answer or an error is
--   reply_text r   its text
use Rattle.std.specs.Prelude.{ℕ, Bool, true, false, List, [], ◌∷◌, ◌++◌, vec_items, Ok, Err, codes, decimal, Result}
use Rattle.refused.specs.Refused.{Refused, text as refused_text}
use Rattle.sheet.specs.Refused.{row as row_of_sheet}
use Rattle.divisors.specs.Refused.{row as row_of_divisors}
use Rattle.frames.specs.Refused.{row as row_of_frames}
use Rattle.trying.specs.Refused.{row as row_of_trying}
use Rattle.reader.specs.Faults.{Row, text as fault_text, row as row_of_fault}
use Rattle.command.specs.declared.verb.Verb.{Verb}
use Rattle.command.specs.declared.mistake.Mistake.{Mistake}
use Rattle.command.specs.declared.mistake.Mistake.TheVariants as mistake
use Rattle.command.specs.Verbs.{form}
use Rattle.desk.specs.declared.answer.Answer.{Answer}
use Rattle.desk.specs.declared.answer.Answer.TheVariants as answer
use Rattle.desk.specs.declared.answer.Error.{Error}
use Rattle.desk.specs.declared.answer.Error.TheVariants as error

pub data Reply : Type 0 where
  node : ℕ → Reply
  blanked : Reply
  drafted : ℕ → Reply
  related : ℕ → ℕ → Reply
  framed : ℕ → Reply
  tried : Bool → List ℕ → Reply
  refuses : Refused → Reply
  faulted : Row → Reply
  no_draft : Reply
  no_frame : Reply
  misused : Verb → Reply
  unknown : Reply

abbrev pub answered : Answer → Reply
answered (answer.Node k) = node k
answered answer.Blank = blanked
answered (answer.Draft n) = drafted n
answered (answer.Line a b) = related a b
answered (answer.Frame n) = framed n
answered (answer.Tried t) = tried t.holds (vec_items t.slots)

abbrev pub mistaken : Mistake → Reply
mistaken (mistake.Misused v) = misused v
mistaken mistake.Unknown = unknown

abbrev pub erred : Error → Reply
erred (error.Sheet r) = refuses (row_of_sheet r)
erred (error.Divisors r) = refuses (row_of_divisors r)
erred (error.Frames r) = refuses (row_of_frames r)
erred (error.Trying r) = refuses (row_of_trying r)
erred (error.Fault f) = faulted (row_of_fault f)
erred error.NoDraft = no_draft
erred error.NoFrame = no_frame
erred (error.Mistake m) = mistaken m

abbrev pub replied : Result Answer Error → Reply
replied (Ok a) = answered a
replied (Err e) = erred e

-- whether an inequality holds
abbrev pub held_text : Bool → List ℕ
held_text true = codes "holds"
held_text false = codes "fails"

-- numbers, each behind a space
abbrev pub numbers_text : List ℕ → List ℕ
numbers_text [] = []
numbers_text (n ∷ ns) = codes " " ++ (decimal n ++ numbers_text ns)

abbrev pub tried_text : Bool → List ℕ → List ℕ
tried_text b s = held_text b ++ (codes " slots" ++ numbers_text s)

abbrev pub reply_text : Reply → List ℕ
reply_text (node k) = codes "node " ++ decimal k
reply_text blanked = codes "blank"
reply_text (drafted n) = codes "draft " ++ decimal n
reply_text (related a b) = codes "line " ++ (decimal a ++ (codes " " ++ decimal b))
reply_text (framed n) = codes "frame " ++ decimal n
reply_text (tried b s) = tried_text b s
reply_text (refuses f) = codes "refused " ++ refused_text f
reply_text (faulted f) = codes "refused " ++ fault_text f
reply_text no_draft = codes "no draft"
reply_text no_frame = codes "no frame"
reply_text (misused v) = codes "usage: " ++ form v
reply_text unknown = codes "unknown command"
