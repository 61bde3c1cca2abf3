-- The state that a sheet has.
use Rattle.std.specs.Prelude.{List, vec_items}
use Rattle.sheet.specs.declared.node.Node.{Node}
use Rattle.sheet.specs.declared.sheet.Sheet.{Sheet}
use Rattle.sheet.specs.Records.{Memo, nodes, memo}
use Rattle.sheet.specs.State.{State}

abbrev pub state : Sheet → State
state s = record { nodes = nodes (vec_items s.records); memo = memo (vec_items s.records) }

abbrev pub nodes_of : Sheet → List Node
nodes_of s = (state s).nodes

abbrev pub memo_of : Sheet → Memo
memo_of s = (state s).memo
