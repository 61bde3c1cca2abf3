-- What a line of a script asks for.
--   Call           a command with what it needs, texts as bytes and words
--   Meaning        what a line means: nothing, a call, or a mistake
--   called c       the call that a command is
--   call_of v bs   the call of the verb v with the bytes bs behind it
--   asked vs l     the meaning of the line l in a program whose verbs are vs
use Rattle.std.specs.Prelude.{ℕ, cond, List, [], ◌∷◌, drop, Some, None, Ok, Err, codes, Option, Result, ok_or, ◌==◌}
use Rattle.std.specs.Option.{option_map}
use Rattle.std.specs.Str.{bytes_eq}
use Rattle.sheet.specs.declared.node.Node.{Node}
use Rattle.sheet.specs.declared.node.Node.TheVariants.{Variable, Meet, Join}
use Rattle.text.specs.Words.{first_word, words_of, one_number, two_numbers}
use Rattle.command.specs.declared.verb.Verb.{Verb}
use Rattle.command.specs.declared.verb.Verb.TheVariants as verb
use Rattle.command.specs.declared.command.Command.{Command}
use Rattle.command.specs.declared.command.Command.TheVariants as command
use Rattle.command.specs.declared.mistake.Mistake.{Mistake}
use Rattle.command.specs.declared.mistake.Mistake.TheVariants.{Misused, Unknown}
use Rattle.command.specs.Verbs.{verb_of}
use Rattle.command.specs.Trials.{Asked, trial_asked, trial_of}

pub data Call : Type 0 where
  enters : Node → Call
  reads : List ℕ → Call
  blanks : Call
  drafts : ℕ → Call
  relates : ℕ → ℕ → Call
  closes : Call
  tries : Asked → Call

abbrev pub Meaning : Type 0
Meaning = Result (Option Call) Mistake

abbrev pub called : Command → Call
called (command.Enter n) = enters n
called (command.Read t) = reads t.now
called command.Blank = blanks
called (command.Draft n) = drafts n
called (command.Line a b) = relates a b
called command.Close = closes
called (command.Try t) = tries (trial_asked t)

-- the call of a command, or the mistake
abbrev pub heard : Result Command Mistake → Result Call Mistake
heard (Ok c) = Ok (called c)
heard (Err m) = Err m

abbrev pub meant : Result (Option Command) Mistake → Meaning
meant (Ok c) = Ok (option_map called c)
meant (Err m) = Err m

abbrev pub pair_of : (ℕ → ℕ → Node) → Option (ℕ × ℕ) → Option Node
pair_of kind = option_map (λ p. kind p.0 p.1)

-- CODE, meet A B or join A B
abbrev pub node_of : List (List ℕ) → Option Node
node_of [] = None
node_of (w ∷ ws) =
    cond (bytes_eq w (codes "meet")) (pair_of Meet (two_numbers ws))
    (cond (bytes_eq w (codes "join")) (pair_of Join (two_numbers ws))
    (option_map Variable (one_number (w ∷ ws))))

-- a call that takes no words
abbrev pub alone : Call → List (List ℕ) → Option Call
alone c [] = Some c
alone c (w ∷ ws) = None

abbrev pub call_of : Verb → List ℕ → Option Call
call_of verb.Enter behind = option_map enters (node_of (words_of behind))
call_of verb.Read behind = Some (reads (drop 1 behind))
call_of verb.Blank behind = alone blanks (words_of behind)
call_of verb.Draft behind = option_map drafts (one_number (words_of behind))
call_of verb.Line behind = option_map (λ p. relates p.0 p.1) (two_numbers (words_of behind))
call_of verb.Close behind = alone closes (words_of behind)
call_of verb.Try behind = option_map tries (trial_of (words_of behind))

abbrev pub said_by : Option Verb → List ℕ → Result Call Mistake
said_by None behind = Err Unknown
said_by (Some v) behind = ok_or (call_of v behind) (Misused v)

abbrev pub said : List Verb → Option (List ℕ × List ℕ) → Result Call Mistake
said vs None = Err Unknown
said vs (Some p) = said_by (verb_of vs p.0) p.1

abbrev pub spoken : List Verb → List ℕ → Result Call Mistake
spoken vs l = said vs (first_word l)

-- a line that says something
abbrev pub saying : Result Call Mistake → Meaning
saying (Ok c) = Ok (Some c)
saying (Err m) = Err m

-- an empty line and a comment ask for nothing
abbrev pub asked : List Verb → List ℕ → Meaning
asked vs [] = Ok None
asked vs (b ∷ bs) = cond (b == 35) (Ok None) (saying (spoken vs (b ∷ bs)))
