-- Nodes in the order of their numbers, and the terms that they stand for.
--   same x y       x and y have the same kind and the same contents in the same order
--   find ns n      the number of the node n among the nodes ns
--   fits k n       n has a code that there is, or parts with numbers below k
--   Grounded ns    every node fits below its own number
--   Distinct ns    no two nodes are equal
--   terms ns       the terms of the nodes, each made of those before it
--   term_at ns k   the term of node k
use Rattle.std.specs.Prelude.{◌≡◌, ℕ, ◌<◌, Bool, true, false, ◌&&◌, List, [], ◌∷◌, ◌++◌, length, Option, ◌==◌, nat_le, nat_lt, slice_index_or}
use Rattle.std.specs.List.{position_from}
use Rattle.free_lattice.specs.Terms.{Term, var, meet, join}
use Rattle.sheet.specs.declared.node.Node.{Node}
use Rattle.sheet.specs.declared.node.Node.TheVariants.{Variable, Meet, Join}

abbrev pub same : Node → Node → Bool
same (Variable c) (Variable d) = c == d
same (Variable c) (Meet x y) = false
same (Variable c) (Join x y) = false
same (Meet a b) (Variable d) = false
same (Meet a b) (Meet x y) = a == x && b == y
same (Meet a b) (Join x y) = false
same (Join a b) (Variable d) = false
same (Join a b) (Meet x y) = false
same (Join a b) (Join x y) = a == x && b == y

-- the number of the first node that is n
abbrev pub find : List Node → Node → Option ℕ
find ns n = position_from (λ m. same m n) 0 ns

abbrev pub fits : ℕ → Node → Bool
fits k (Variable c) = nat_le c 2625
fits k (Meet a b) = nat_lt a k && nat_lt b k
fits k (Join a b) = nat_lt a k && nat_lt b k

-- the node of a number; what stands where there is none does not matter
abbrev pub node_at : List Node → ℕ → Node
node_at ns k = slice_index_or ns k (Variable 0)

abbrev pub Grounded : List Node → Type 0
Grounded ns = (k : ℕ) → k < length ns → fits k (node_at ns k) ≡ true

abbrev pub Distinct : List Node → Type 0
Distinct ns = (i j : ℕ) (s : (i < length ns) × (j < length ns) × (node_at ns i ≡ node_at ns j)) → i ≡ j

-- the term of a node whose parts have the terms ts
abbrev pub term_of : List Term → Node → Term
term_of ts (Variable c) = var c
term_of ts (Meet a b) = meet (slice_index_or ts a (var 0)) (slice_index_or ts b (var 0))
term_of ts (Join a b) = join (slice_index_or ts a (var 0)) (slice_index_or ts b (var 0))

abbrev pub terms_behind : List Term → List Node → List Term
terms_behind ts [] = ts
terms_behind ts (n ∷ ns) = terms_behind (ts ++ term_of ts n ∷ []) ns

abbrev pub terms : List Node → List Term
terms = terms_behind []

abbrev pub term_at : List Node → ℕ → Term
term_at ns k = slice_index_or (terms ns) k (var 0)
