use Rattle.std.proofs.Common.{refl, vec_items}
use Rattle.std.proofs.Output.{has_written_append, has_written_of_eq}
use Rattle.desk.proofs.Showing.{numbers_more}
use Rattle.desk.proofs.answer.TriedDisplay.fmt.Goals as goal

pub loop-slot-preserved : goal.loop-slot-preserved
loop-slot-preserved g c plain =
    let before = c.loop-slot.invariant plain in
    has_written_of_eq g.W.Write.write_str_gives _ _ _ _ (numbers_more (vec_items c.args.self.now.slots) _ c.loop-slot.slot-index c.deref-slot-items.ensures.value c.loop-slot-test.true)
    (has_written_append g.W.Write.write_str_gives _ _ _ _ _ before (c.in_ok-write.ensures.writes before.plain refl))
