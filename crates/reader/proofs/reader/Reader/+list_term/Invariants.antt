use Rattle.std.proofs.Common.{◌+◌, ◌-◌, ◌*◌, length}
use Rattle.reader.proofs.Steps.{Going}
use Rattle.reader.proofs.reader.Reader.+list_term.Given as goal

abbrev pub decreases-list : goal.decreases-list
decreases-list l = 2 * (length l.self.now.cutter.text.now - l.self.now.cutter.at)

abbrev pub decreases-term : goal.decreases-term
decreases-term l = 2 * (length l.self.now.cutter.text.now - l.self.now.cutter.at) + 1

abbrev pub invariant-list-loop-token : goal.invariant-list-loop-token
invariant-list-loop-token l = Going l.left l.sign l.initial.self l.self l.held

abbrev pub decreases-list-loop-token : goal.decreases-list-loop-token
decreases-list-loop-token l = length l.initial.self.cutter.text.now - l.self.cutter.at
