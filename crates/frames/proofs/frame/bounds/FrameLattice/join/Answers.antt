use Rattle.std.proofs.Common.{◌≡◌, ◌<◌, true, sym, subst, arith, tests}
use Rattle.free_lattice.specs.Bounds.{Supremum}
use Rattle.frames.specs.Order.{bound_in, Le}
use Rattle.frames.specs.View.{frame_of}
use Rattle.frames.specs.Framing.{bounded}
use Rattle.frames.proofs.frame.bounds.FrameLattice.join.Goals as goal

pub returns-clause-least : goal.returns-clause-least
returns-clause-least c =
    let f = c.args.self.now in
    let a = c.args.a in
    let b = c.args.b in
    λ p q.
    let same : c.bound.result ≡ bound_in f.order.size f.order.word true a b = grind (arith, tests, c.bound.ensures) in
    subst (Supremum (λ x. x < f.order.size) (Le (frame_of f)) a b) (sym same) ((bounded f).suprema a b p q)
