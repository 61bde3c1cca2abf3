use Rattle.std.proofs.Common.{Ok, Err, rules, ap, ◌∙◌}
use Rattle.std.proofs.lemmas.List.{with_items_is}
use Rattle.sheet.specs.View.{nodes_of}
use Rattle.trying.specs.Refused.{row}
use Rattle.desk.specs.Answers.{tried}
use Rattle.desk.proofs.Trials.{trial_answers}
use Rattle.desk.proofs.desk.tried.Goals as goal

pub returns : goal.returns
returns g c test tells =
    let t = c.try_in.new.slots in
    ap (tried c.in_ok-holds.holds) (with_items_is c.args.slots t (c.try_in.auto.slots ∙ c.deref_mut.ensures.len))
    ∙ trial_answers _ test tells (nodes_of c.args.sheet.now) c.args.u c.args.v _ _ t (Ok c.in_ok-holds.holds) c.deref_mut.ensures.value c.in_ok-holds.ensures.tried

pub returns-in_err-holds : goal.returns-in_err-holds
returns-in_err-holds g c test tells =
    let e = trial_answers _ test tells (nodes_of c.args.sheet.now) c.args.u c.args.v c.args.slots.items _ c.try_in.new.slots (Err (row c.in_err-holds.field-0.0)) c.deref_mut.ensures.value c.in_err-holds.ensures.tried in
    search rules
