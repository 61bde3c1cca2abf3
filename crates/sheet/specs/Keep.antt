-- What is left of a sheet whose last nodes are taken off.
use Rattle.std.specs.Prelude.{ℕ, max, cond, take, None, nat_lt}
use Rattle.sheet.specs.State.{State}

-- the first n nodes, and the pairs of them that are settled
abbrev pub kept : ℕ → State → State
kept n S = record { nodes = take n S.nodes; memo = λ i j. cond (nat_lt (max i j) n) (S.memo i j) None }
