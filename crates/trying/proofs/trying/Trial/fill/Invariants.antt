use Rattle.trying.specs.Trials.{Fills}
use Rattle.trying.proofs.trying.Trial.fill.Given as goal

abbrev pub invariant-loop-k : goal.invariant-loop-k
invariant-loop-k g l = Fills l.k l.initial.self l.self
