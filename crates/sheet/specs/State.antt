-- What a sheet is to its callers: its nodes and its settled pairs. Every call on it is told by the state before and after.
use Rattle.std.specs.Prelude.{ℕ, List, [], length, None}
use Rattle.sheet.specs.declared.node.Node.{Node}
use Rattle.sheet.specs.Records.{Memo}

pub record State : Type 0 where
  pub nodes : List Node
  pub memo : Memo

abbrev pub blank : State
blank = record { nodes = []; memo = λ i j. None }

-- how many nodes there are
abbrev pub count : State → ℕ
count S = length S.nodes
