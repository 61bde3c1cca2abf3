use Rattle.std.proofs.Common.{◌≡◌, ◌<◌, false, sym, subst, arith, tests}
use Rattle.free_lattice.specs.Bounds.{Infimum}
use Rattle.frames.specs.Order.{bound_in, Le}
use Rattle.frames.specs.View.{frame_of}
use Rattle.frames.specs.Framing.{bounded}
use Rattle.frames.proofs.frame.bounds.FrameLattice.meet.Goals as goal

pub returns-clause-greatest : goal.returns-clause-greatest
returns-clause-greatest c =
    let f = c.args.self.now in
    let a = c.args.a in
    let b = c.args.b in
    λ p q.
    let same : c.bound.result ≡ bound_in f.order.size f.order.word false a b = grind (arith, tests, c.bound.ensures) in
    subst (Infimum (λ x. x < f.order.size) (Le (frame_of f)) a b) (sym same) ((bounded f).infima a b p q)
