use Rattle.std.proofs.Common.{rules}
use Rattle.text.proofs.SplitLines.{with_return, without_return}
use Rattle.text.proofs.lines.chomp.Goals as goal

pub returns-in-13 : goal.returns-in-13
returns-in-13 c = search (rules, with_return)

pub returns-in_default-2 : goal.returns-in_default-2
returns-in_default-2 c = search (rules, without_return)
