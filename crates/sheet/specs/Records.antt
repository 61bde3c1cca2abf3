-- What the records of a sheet hold: its nodes, and its memo.
--   Memo           for each pair of numbers, its answer if it is settled
--   fresh n        the record of a node of which no pair is settled
--   within n r     the record r with its pairs with the first n nodes only
--   shorter n rs   the first n records, with their pairs with the first n nodes only
--   nodes rs       the nodes of the records
--   memo rs        the settled pairs of the records
--   Inside n m     every pair settled in m is of nodes below n
use Rattle.std.specs.Prelude.{◌≡◌, ℕ, ◌/◌, ◌%◌, ◌^◌, ◌≤◌, max, Bool, false, cond, List, map, take, is_some, Some, None, Option, ◌==◌, slice_index_or}
use Rattle.sheet.specs.declared.node.Node.{Node}
use Rattle.sheet.specs.declared.node.Node.TheVariants.{Variable}
use Rattle.sheet.specs.declared.node.Record.{Record}

abbrev pub Memo : Type 0
Memo = ℕ → ℕ → Option Bool

abbrev pub fresh : Node → Record
fresh n = record { node = n; settled = 0; affirmed = 0 }

abbrev pub within : ℕ → Record → Record
within n r = record { node = r.node; settled = r.settled % 2 ^ n; affirmed = r.affirmed % 2 ^ n }

abbrev pub shorter : ℕ → List Record → List Record
shorter n rs = map (within n) (take n rs)

abbrev pub nodes : List Record → List Node
nodes = map (λ r. r.node)

-- bit j of a word
abbrev pub bit : ℕ → ℕ → Bool
bit w j = w / 2 ^ j % 2 == 1

-- the answers that a record keeps
abbrev pub answers : Record → ℕ → Option Bool
answers r j = cond (bit r.settled j) (Some (bit r.affirmed j)) None

abbrev pub memo : List Record → Memo
memo rs i = answers (slice_index_or rs i (fresh (Variable 0)))

abbrev pub Inside : ℕ → Memo → Type 0
Inside n m = (i j : ℕ) → n ≤ max i j → is_some (m i j) ≡ false
