use Rattle.std.proofs.Common.{get_or, set, ap, ◌∙◌, arith}
use Rattle.std.proofs.lemmas.List.{get_or_default}
use Rattle.std.proofs.lemmas.List.Edits.{map_over_more}
use Rattle.sheet.specs.declared.node.Node.TheVariants.{Variable}
use Rattle.sheet.specs.Records.{fresh, within}
use Rattle.sheet.proofs.sheet.keep.shorten.Goals as goal

pub loop-record-preserved : goal.loop-record-preserved
loop-record-preserved c =
    let now = c.loop-record.record-items in
    let i = c.loop-record.record-index in
    let old = get_or now i (fresh (Variable 0)) in
    ap (set now i) c.within.ensures
    ∙ map_over_more (within c.args.n) c.deref_mut-record-items.result.now now i old c.loop-record-test.true c.loop-record.invariant (get_or_default now i (fresh (Variable 0)) old (omega (arith, c.loop-record.auto.record-items)))
