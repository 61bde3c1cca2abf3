use Rattle.std.proofs.Common.{rules}
use Rattle.sheet.specs.View.{nodes_of}
use Rattle.trying.proofs.Judging.{granted, verdict}
use Rattle.trying.proofs.trying.try_in.Goals as goal

pub returns : goal.returns
returns g c =
    let m = g.L.Lattice.means c.args.lattice.now in
    let laws = g.met.L.Lattice.laws c.args.lattice.now in
    let sheet = c.args.sheet.now in
    let ns = nodes_of sheet in
    let u = c.args.u in
    let v = c.args.v in
    let s = c.args.slots.now in
    let grant =
    granted m ns u v _ s _ _ _ _ _ c.max.ensures c.in_ok-check.ensures c.in_default.ensures c.fill.ensures.slots c.fill.ensures.admitted
    c.index-slots-u.is c.index-slots-v.is (search rules) c.below.ensures in
    record { tried = grant; law = verdict m laws ns sheet.grounded sheet.distinct u v s _ _ grant }
