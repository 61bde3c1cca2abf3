-- The law of reading: a text is granted exactly when it is a written term whose new nodes fit, and then it is entered as that term.
--   Has ts u         u is among the terms ts
--   Adds ts us vs    vs is ts with the terms us behind, in their order, each unless it is there
--   Stands           the answer k is the node of the written term, and the sheet got exactly the terms that it lacked
--   Taken            a written term is granted if its nodes fit, and else refused as the sheet is full
use Rattle.std.specs.Prelude.{◌≡◌, ℕ, ◌<◌, ◌≤◌, List, [], ◌∷◌, ◌++◌, length, Ok, Err, Result, slice_index_or}
use Rattle.free_lattice.specs.Terms.{Term, var, subterms}
use Rattle.sheet.specs.declared.node.Node.{Node}
use Rattle.sheet.specs.Nodes.{terms, term_at}
use Rattle.reader.specs.Faults.{Row, by_sheet}
use Rattle.reader.specs.Grammar.{Tree, term, Written}

abbrev pub Has : List Term → Term → Type 0
Has ts u = (k : ℕ) × (k < length ts) × (slice_index_or ts k (var 0) ≡ u)

pub data Adds : List Term → List Term → List Term → Type 0 where
  done : {ts : List Term} → Adds ts [] ts
  old : {ts us vs : List Term} {u : Term} → Has ts u → Adds ts us vs → Adds ts (u ∷ us) vs
  new : {ts us vs : List Term} {u : Term} → (Has ts u → ⊥) → Adds (ts ++ u ∷ []) us vs → Adds ts (u ∷ us) vs

pub record Stands (text : List ℕ) (ns ns' : List Node) (k : ℕ) : Type 0 where
  pub tree : Tree
  pub written : Written text tree
  pub there : k < length ns'
  pub means : term_at ns' k ≡ term tree
  pub adds : Adds (terms ns) (subterms (term tree)) (terms ns')
  pub fits : length ns' ≤ 60

pub record Taken (ns : List Node) (t : Tree) (r : Result ℕ Row) : Type 0 where
  pub after : List Term
  pub adds : Adds (terms ns) (subterms (term t)) after
  pub fits : length after ≤ 60 → (k : ℕ) × (r ≡ Ok k)
  pub full : 60 < length after → (p : ℕ) × (r ≡ Err (by_sheet 8 p))

pub record Exact (text : List ℕ) (ns ns' : List Node) (r : Result ℕ Row) : Type 0 where
  pub granted : (k : ℕ) → r ≡ Ok k → Stands text ns ns' k
  pub written : (t : Tree) → Written text t → Taken ns t r
  pub one_tree : (t u : Tree) → Written text t → Written text u → t ≡ u
