-- What entering a node answers, and what it leaves.
use Rattle.std.specs.Prelude.{◌≡◌, ℕ, ◌+◌, ◌<◌, ◌≤◌, cond, List, [], ◌∷◌, ◌++◌, length, Some, None, Ok, Err, Option, Result, nat_le, nat_lt}
use Rattle.refused.specs.Refused.{Refused, refused, tested, and_then}
use Rattle.sheet.specs.declared.node.Node.{Node}
use Rattle.sheet.specs.declared.node.Node.TheVariants.{Variable, Meet, Join}
use Rattle.sheet.specs.Nodes.{find, node_at, terms, term_of, term_at}
use Rattle.sheet.specs.State.{State, count}

-- of n nodes, k is the number of one
abbrev pub present : ℕ → ℕ → Result (Unit {0}) Refused
present n k = tested (nat_lt k n) (refused 9 (k ∷ []))

-- whether a node can be made on a sheet with n nodes: its code is at most 2625, or its parts are there
abbrev pub judged : ℕ → Node → Result (Unit {0}) Refused
judged n (Variable c) = tested (nat_le c 2625) (refused 10 [])
judged n (Meet a b) = and_then (present n a) (present n b)
judged n (Join a b) = and_then (present n a) (present n b)

-- the number of a node that was found, or else that of the next, if there is room
abbrev pub numbered : List Node → Option ℕ → Result ℕ Refused
numbered ns (Some k) = Ok k
numbered ns None = cond (nat_lt (length ns) 60) (Ok (length ns)) (Err (refused 8 []))

-- the nodes with a new one behind the last, if there is room
abbrev pub grown : List Node → Node → Option ℕ → List Node
grown ns n (Some k) = ns
grown ns n None = cond (nat_lt (length ns) 60) (ns ++ n ∷ []) ns

abbrev pub entering_by : State → Node → Result (Unit {0}) Refused → State × Result ℕ Refused
entering_by S n (Ok u) = (record { nodes = grown S.nodes n (find S.nodes n); memo = S.memo }, numbered S.nodes (find S.nodes n))
entering_by S n (Err f) = (S, Err f)

-- the sheet after a node was entered, and the answer
abbrev pub entering : State → Node → State × Result ℕ Refused
entering S n = entering_by S n (judged (count S) n)

-- what a grant means: node k is the term asked for, every earlier node keeps its number and its term, and at most one is added
pub record Entered (ns : List Node) (n : Node) (ns' : List Node) (k : ℕ) : Type 0 where
  pub there : k < length ns'
  pub means : term_at ns' k ≡ term_of (terms ns) n
  pub earlier : (i : ℕ) → i < length ns → (i < length ns') × (node_at ns' i ≡ node_at ns i) × (term_at ns' i ≡ term_at ns i)
  pub one : length ns' ≤ length ns + 1
