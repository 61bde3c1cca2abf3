use Rattle.std.proofs.Common.{sym, rules}
use Rattle.reader.proofs.Finishing.{refused, granted}
use Rattle.reader.proofs.reader.read.Goals as goal

pub returns-then-is_err : goal.returns-then-is_err
returns-then-is_err c = refused _ c.whole-answer.ensures c.new.ensures.at c.new.ensures.text _ (search rules) (sym c.if-is_err.ensures.value)

pub returns-else-is_err : goal.returns-else-is_err
returns-else-is_err c = granted _ c.whole-answer.ensures c.new.ensures.at c.new.ensures.text _ (search rules) (sym c.if-is_err.ensures.value)
