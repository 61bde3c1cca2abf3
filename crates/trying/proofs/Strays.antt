-- The search for the first variable whose slot is not admitted.
use Rattle.std.proofs.Common.{◌≡◌, ℕ, ◌<◌, ◌≤◌, Bool, true, false, List, Some, None, Option, arith}
use Rattle.std.specs.Bool.{⊤}
use Rattle.std.specs.Fn.{CalledAt}
use Rattle.std.specs.Iterator.{YieldsThen}
use Rattle.std.specs.List.{FoldsTo}
use Rattle.std.specs.Option.{MatchOption}
use Rattle.std.specs.declared.ops.Range.{Range}
use Rattle.std.proofs.iter.Yields.{nat_range_steps}
use Rattle.std.proofs.lemmas.Iterator.{first_from_Range}
use denote.Param.Members.{Mut}
use denote.Ref.{Bor}
use Rattle.free_lattice.specs.Lattices.{Meaning}
use Rattle.sheet.specs.declared.node.Node.{Node}
use Rattle.trying.specs.Trying.{ReadyAt, Ready, Strays, Stray}

module _ {E : Type 0} (m : Meaning E) (ns : List Node) (s : List E) where
  stray_by : (n : ℕ) (r : Option ℕ)
      → MatchOption r ((k : ℕ) → 0 ≤ k → k < n → ReadyAt m ns s k) (λ i. (0 ≤ i) × (i < n) × Strays m ns s i × ((k : ℕ) → 0 ≤ k → k < i → ReadyAt m ns s k))
      → MatchOption r (Ready m ns n s) (Stray m ns n s)
  stray_by n None h = λ d k c lt is. (h k (omega arith) lt).ready d c is
  stray_by n (Some i) h = record { within = h.1; code = h.2.code; variable = h.2.variable; unadmitted = h.2.unadmitted; first = λ d k c lt is. (h.3 k (omega arith) lt).ready d c is }

  -- `find` over the numbers below n, where the closure tells whether a node strays
  pub stray_of_find : {F : Type 0} {g : Mut F (Bor ℕ × Unit {0}) Bool} (n : ℕ) (u : Range ℕ) (f : F) (r : Option ℕ)
      → (xs : List ℕ) × (j : F) × YieldsThen nat_range_steps (record { start = 0; end = n }) xs r u
      × FoldsTo (λ p x q. CalledAt g p x false q) f xs j × MatchOption r ⊤ (λ x. (h : F) × CalledAt g j x true h)
      → ((x : ℕ) (q : F) → CalledAt g f x true q → Strays m ns s x) → ((x : ℕ) (q : F) → CalledAt g f x false q → (q ≡ f) × ReadyAt m ns s x) → MatchOption r (Ready m ns n s) (Stray m ns n s)
  stray_of_find n u f r ran hit miss = stray_by n r (first_from_Range (record { start = 0; end = n }) u f r (Strays m ns s) (ReadyAt m ns s) ran hit miss)
