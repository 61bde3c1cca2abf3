use Rattle.std.proofs.Common.{◌≤◌, rules, arith}
use Rattle.std.proofs.Math.Nat.{le_of_dvd}
use Rattle.divisors.specs.Divisors.{divides}
use Rattle.desk.specs.SitesTell.{divisors_tell}
use Rattle.desk.proofs.desk.Desk.on_site.Goals as goal

pub invariant_of-tried : goal.invariant_of-tried
invariant_of-tried c =
    let d = c.in_ok-lattice-in-Divisors.lattice in
    record { bounded = λ x h. let le : x ≤ d.n = le_of_dvd d.positive h in omega (arith, d.small) }

pub returns-in_ok-lattice-in-Divisors : goal.returns-in_ok-lattice-in-Divisors
returns-in_ok-lattice-in-Divisors c =
    let d = c.in_ok-lattice-in-Divisors.lattice in
    let e = c.tried-in-Divisors.ensures (λ x. divides x d.n) (divisors_tell d.n d.positive) in
    search rules
