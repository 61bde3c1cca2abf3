use Rattle.std.proofs.Common.{take, vec_items}
use Rattle.std.specs.Fmt.{IsPlainFormatter, HasWritten}
use Rattle.desk.specs.Answers.{numbers_text}
use Rattle.desk.proofs.answer.TriedDisplay.fmt.Given as goal

abbrev pub invariant-loop-slot : goal.invariant-loop-slot
invariant-loop-slot g l = IsPlainFormatter l.initial.f → HasWritten g.W.Write.write_str_gives l.initial.f (numbers_text (take l.slot-index (vec_items l.self.slots))) l.f
