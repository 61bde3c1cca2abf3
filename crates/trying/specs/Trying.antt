-- Trying whether node u is below node v in a lattice m: what it answers, and what it leaves in the slots.
-- Slot k belongs to node k; s are the slots before and t those after. Past the last slot any element d stands.
--   reach u v          how many slots it takes: one for each node up to the later of the two
--   checked ns u v n   whether both nodes are there, and n slots suffice
--   filled .. ns n s   the slots of the meets and joins among the first n nodes filled, bottom up
--   Strays, ReadyAt m ns s k   node k is a variable whose slot is not admitted; it is none, or its slot is
--   Ready m ns n s     the slots of the variables among the first n nodes are admitted
--   Stray m ns n s k   of the variables among the first n nodes, k is the first whose slot is not admitted
--   Tried .. s t r     r is the answer, and t the slots that it leaves
--   filling d ns n s   the filling that the slots give: a variable among the first n nodes has its slot, any other has d
--   Judged .. s t r    what the answer r and the slots t mean for the terms of the nodes
use Rattle.std.specs.Prelude.{◌≡◌, ℕ, zero, suc, ◌+◌, ◌<◌, ◌≤◌, max, Bool, false, not, ◌⊎◌, List, [], ◌∷◌, length, take, Some, None, Ok, Err, Decides, Option, Result, nat_le, slice_index_or, slice_set}
use Rattle.free_lattice.specs.Lattices.{Meaning, Below, value, Filling, Fails, FailsIn}
use Rattle.refused.specs.Refused.{Refused, refused, tested, and_then}
use Rattle.sheet.specs.declared.node.Node.{Node}
use Rattle.sheet.specs.declared.node.Node.TheVariants.{Variable, Meet, Join}
use Rattle.sheet.specs.Nodes.{node_at, find, term_at}
use Rattle.sheet.specs.Enter.{present}

abbrev pub reach : ℕ → ℕ → ℕ
reach u v = max u v + 1

abbrev pub checked : List Node → ℕ → ℕ → ℕ → Result (Unit {0}) Refused
checked ns u v n = and_then (present (length ns) u) (and_then (present (length ns) v) (tested (nat_le (reach u v) n) (refused 18 [])))

-- the parts of the node have numbers below k
abbrev pub PartsBelow : ℕ → Node → Type 0
PartsBelow k (Variable c) = Unit {0}
PartsBelow k (Meet a b) = (a < k) × (b < k)
PartsBelow k (Join a b) = (a < k) × (b < k)

-- slot k filled from the slots of the parts of its node
abbrev pub put : {E : Type 0} → (E → E → E) → (E → E → E) → E → ℕ → Node → List E → List E
put meet join d k (Variable c) s = s
put meet join d k (Meet a b) s = slice_set s k (meet (slice_index_or s a d) (slice_index_or s b d))
put meet join d k (Join a b) s = slice_set s k (join (slice_index_or s a d) (slice_index_or s b d))

abbrev pub filled : {E : Type 0} → (E → E → E) → (E → E → E) → E → List Node → ℕ → List E → List E
filled meet join d ns zero s = s
filled meet join d ns (suc n) s = put meet join d n (node_at ns n) (filled meet join d ns n s)

-- t is s with the slots of the meets and joins among the first n nodes filled
abbrev pub Filled : {E : Type 0} → Meaning E → List Node → ℕ → List E → List E → Type 0
Filled {E} m ns n s t = (d : E) → t ≡ filled m.meet m.join d ns n s

-- the first n slots are admitted
abbrev pub Admitted : {E : Type 0} → Meaning E → ℕ → List E → Type 0
Admitted {E} m n t = (d : E) (k : ℕ) → k < n → m.admitted (slice_index_or t k d)

-- slot k is admitted, if node k is a variable
pub record ReadyAt {E : Type 0} (m : Meaning E) (ns : List Node) (s : List E) (k : ℕ) : Type 0 where
  pub ready : (d : E) (c : ℕ) → node_at ns k ≡ Variable c → m.admitted (slice_index_or s k d)

abbrev pub Ready : {E : Type 0} → Meaning E → List Node → ℕ → List E → Type 0
Ready {E} m ns n s = (d : E) (k c : ℕ) → k < n → node_at ns k ≡ Variable c → m.admitted (slice_index_or s k d)

-- node k is a variable whose slot is not admitted
pub record Strays {E : Type 0} (m : Meaning E) (ns : List Node) (s : List E) (k : ℕ) : Type 0 where
  pub code : ℕ
  pub variable : node_at ns k ≡ Variable code
  pub unadmitted : (d : E) → m.admitted (slice_index_or s k d) → ⊥

pub record Stray {E : Type 0} (m : Meaning E) (ns : List Node) (n : ℕ) (s : List E) (k : ℕ) : Type 0 where
  pub within : k < n
  pub code : ℕ
  pub variable : node_at ns k ≡ Variable code
  pub unadmitted : (d : E) → m.admitted (slice_index_or s k d) → ⊥
  pub first : Ready m ns k s

-- the refusal f names the first stray
pub record Astray {E : Type 0} (m : Meaning E) (ns : List Node) (u v : ℕ) (s : List E) (f : Refused) : Type 0 where
  pub passed : checked ns u v (length s) ≡ Ok tt
  pub node : ℕ
  pub stray : Stray m ns (reach u v) s node
  pub is : f ≡ refused 19 (node ∷ [])

-- the slots are filled, and b says whether slot u is below slot v
pub record Granted {E : Type 0} (m : Meaning E) (ns : List Node) (u v : ℕ) (s t : List E) (b : Bool) : Type 0 where
  pub passed : checked ns u v (length s) ≡ Ok tt
  pub ready : Ready m ns (reach u v) s
  pub slots : Filled m ns (reach u v) s t
  pub below : (d : E) → Decides b (Below m (slice_index_or t u d) (slice_index_or t v d))

abbrev pub Tried : {E : Type 0} → Meaning E → List Node → ℕ → ℕ → List E → List E → Result Bool Refused → Type 0
Tried m ns u v s t (Ok b) = Granted m ns u v s t b
Tried m ns u v s t (Err f) = (t ≡ s) × ((checked ns u v (length s) ≡ Err f) ⊎ Astray m ns u v s f)

-- the slot of a node that was found
abbrev pub slot_of : {E : Type 0} → E → List E → Option ℕ → E
slot_of d s (Some k) = slice_index_or s k d
slot_of d s None = d

abbrev pub filling : {E : Type 0} → E → List Node → ℕ → List E → ℕ → E
filling d ns n s c = slot_of d s (find (take n ns) (Variable c))

-- what b and t mean by the filling ρ: each slot up to the later node is the value of its node's term, and the others stay;
-- b says whether the value of u is below that of v, so it is no exactly where ρ fails the pair
pub record Judgment {E : Type 0} (m : Meaning E) (ns : List Node) (u v : ℕ) (s t : List E) (b : Bool) (d : E) (ρ : ℕ → E) : Type 0 where
  pub values : (k : ℕ) → k < reach u v → slice_index_or t k d ≡ value m ρ (term_at ns k)
  pub others : (k : ℕ) → reach u v ≤ k → slice_index_or t k d ≡ slice_index_or s k d
  pub slots_admitted : (k : ℕ) → k < reach u v → m.admitted (slice_index_or t k d)
  pub filling_admitted : m.admitted d → Filling m ρ
  pub holds : Decides b (Below m (value m ρ (term_at ns u)) (value m ρ (term_at ns v)))
  pub fails : Decides (not b) (Fails m ρ (term_at ns u) (term_at ns v))

-- the judgment by the filling that the slots give; and a no says that the lattice fails the pair
pub record Verdict {E : Type 0} (m : Meaning E) (ns : List Node) (u v : ℕ) (s t : List E) (b : Bool) : Type 0 where
  pub judgment : (d : E) → Judgment m ns u v s t b d (filling d ns (reach u v) s)
  pub refutes : b ≡ false → FailsIn m (term_at ns u) (term_at ns v)

abbrev pub Judged : {E : Type 0} → Meaning E → List Node → ℕ → ℕ → List E → List E → Result Bool Refused → Type 0
Judged m ns u v s t (Ok b) = Verdict m ns u v s t b
Judged m ns u v s t (Err f) = Unit {0}
