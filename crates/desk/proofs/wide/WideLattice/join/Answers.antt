use Rattle.std.proofs.Common.{rules}
use Rattle.desk.proofs.Present.{some_of}
use Rattle.desk.proofs.wide.WideLattice.join.Goals as goal

pub returns : goal.returns
returns g c p q =
    let both = some_of c.narrowed.ensures (c.args.self.now.bounded c.args.a p, c.args.self.now.bounded c.args.b q) in
    search rules
