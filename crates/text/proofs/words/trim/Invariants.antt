use Rattle.std.proofs.Common.{◌≡◌, length}
use Rattle.text.specs.Words.{trimmed}
use Rattle.text.proofs.words.trim.Given as goal

abbrev pub invariant-loop-rest : goal.invariant-loop-rest
invariant-loop-rest l = trimmed l.rest ≡ trimmed l.line

abbrev pub decreases-loop-rest : goal.decreases-loop-rest
decreases-loop-rest l = length l.rest
