-- Trying in a lattice of numbers, where a test tells the admitted ones: the whole answer as it computes.
--   tries test meet join ns u v s   the answer and the slots that it leaves, or the refusal
--   answered r t                    the answer r with the slots t that it leaves
use Rattle.std.specs.Prelude.{ℕ, zero, suc, Bool, false, cond, not, List, [], ◌∷◌, length, Some, None, Ok, Err, Option, Result, ◌==◌, slice_index}
use Rattle.refused.specs.Refused.{Refused, refused, and_then}
use Rattle.sheet.specs.declared.node.Node.{Node}
use Rattle.sheet.specs.declared.node.Node.TheVariants.{Variable, Meet, Join}
use Rattle.sheet.specs.Nodes.{node_at}
use Rattle.trying.specs.Trying.{reach, checked, filled}

-- the node is a variable, and its slot x does not pass the test
abbrev pub strays : (ℕ → Bool) → Node → ℕ → Bool
strays test (Variable c) x = not (test x)
strays test (Meet a b) x = false
strays test (Join a b) x = false

-- the one found before, or else n if it is one
abbrev pub or_here : Option ℕ → Bool → ℕ → Option ℕ
or_here (Some k) b n = Some k
or_here None b n = cond b (Some n) None

-- the first stray among the first n nodes
abbrev pub first_stray : (ℕ → Bool) → List Node → ℕ → List ℕ → Option ℕ
first_stray test ns zero s = None
first_stray test ns (suc n) s = or_here (first_stray test ns n s) (strays test (node_at ns n) (slice_index s n)) n

-- refused for a stray, or else the answer r
abbrev pub unless_stray : {A : Type 0} → Option ℕ → Result A Refused → Result A Refused
unless_stray (Some k) r = Err (refused 19 (k ∷ []))
unless_stray None r = r

-- whether slot u is below slot v, and the slots
abbrev pub compared : (ℕ → ℕ → ℕ) → ℕ → ℕ → List ℕ → Bool × List ℕ
compared meet u v t = ((meet (slice_index t u) (slice_index t v) == slice_index t u), t)

abbrev pub tries : (ℕ → Bool) → (ℕ → ℕ → ℕ) → (ℕ → ℕ → ℕ) → List Node → ℕ → ℕ → List ℕ → Result (Bool × List ℕ) Refused
tries test meet join ns u v s =
    and_then (checked ns u v (length s)) (unless_stray (first_stray test ns (reach u v) s) (Ok (compared meet u v (filled meet join 0 ns (reach u v) s))))

abbrev pub answered : Result Bool Refused → List ℕ → Result (Bool × List ℕ) Refused
answered (Ok b) t = Ok (b, t)
answered (Err f) t = Err f
