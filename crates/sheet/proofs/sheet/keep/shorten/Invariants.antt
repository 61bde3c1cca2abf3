use Rattle.std.proofs.Common.{◌≡◌, ◌++◌, map, take, drop}
use Rattle.sheet.specs.Records.{within}
use Rattle.sheet.proofs.sheet.keep.shorten.Given as goal

abbrev pub invariant-loop-record : goal.invariant-loop-record
invariant-loop-record l = l.record-items ≡ map (within l.n) (take l.record-index l.initial.record-items) ++ drop l.record-index l.initial.record-items
