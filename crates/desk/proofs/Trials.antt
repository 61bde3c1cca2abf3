-- What a trial in a lattice of numbers is answered.
use Rattle.std.proofs.Common.{◌≡◌, ℕ, Bool, List, Result, ap, ◌∙◌}
use Rattle.free_lattice.specs.Lattices.{Meaning}
use Rattle.refused.specs.Refused.{Refused}
use Rattle.sheet.specs.declared.node.Node.{Node}
use Rattle.trying.specs.Trying.{Tried}
use Rattle.trying.specs.Numbers.{answered}
use Rattle.trying.proofs.Numbers.{tried_answers}
use Rattle.desk.specs.Sites.{site, Tells}
use Rattle.desk.specs.Answers.{tried}
use Rattle.desk.specs.Desks.{granted, tried_on}

pub trial_answers : (m : Meaning ℕ) (test : ℕ → Bool) → Tells test m → (ns : List Node) (u v : ℕ) (s s' t : List ℕ) (r : Result Bool Refused) → s' ≡ s → Tried m ns u v s' t r
    → granted (λ p. tried p.0 p.1) (answered r t) ≡ tried_on ns u v s (site m test)
trial_answers m test tells ns u v s s' t r e h =
    ap (granted (λ p. tried p.0 p.1)) (tried_answers m test tells ns s' u v t r h) ∙ ap (λ l. tried_on ns u v l (site m test)) e
