use Rattle.std.proofs.lemmas.Bool.Decides.{Decides-at}
use Rattle.divisors.specs.Divisors.{divides}
use Rattle.divisors.specs.Divisibility.{decides_divides}
use Rattle.divisors.proofs.divisors.DivisorsLattice.admits.Goals as goal

pub returns : goal.returns
returns c =
    let x = c.args.x in
    let d = c.args.self.now in
    let is = c.divides.ensures in
    record { decides = Decides-at c.divides.result (divides x d.n) is (decides_divides x d.n d.positive); is = is }
