use Rattle.std.proofs.Common.{◌≡◌, ◌<◌, [], ◌∷◌, ◌++◌, Ok, vec_items, vec_len, sym, ap, ◌∙◌, subst, subst₂, arith}
use Rattle.sheet.specs.Nodes.{Grounded, Distinct}
use Rattle.sheet.specs.Records.{nodes, memo, fresh, Inside}
use Rattle.sheet.proofs.Nodes.{grounded_more, distinct_more}
use Rattle.sheet.proofs.Records.{nodes_push, memo_push, inside_more}
use Rattle.sheet.proofs.View.{count_is, at_most}
use Rattle.sheet.proofs.Enter.{judged_fits, entering_old, entering_new, entered_old, entered_new}
use Rattle.sheet.specs.State.{count}
use Rattle.sheet.specs.Enter.{Entered}
use Rattle.sheet.specs.View.{state}
use Rattle.sheet.proofs.sheet.Sheet.enter.Goals as goal

pub returns-in-Some : goal.returns-in-Some
returns-in-Some c =
    let S = state c.args.self.now in
    let there = sym c.in-Some.ensures in
    record {
      does = entering_old S c.args.node (sym c.in_ok-judge.ensures) c.in-Some.k there;
      law = entered_old S.nodes c.args.node c.in-Some.k c.args.self.now.grounded there;
    }

pub invariant_of-self : goal.invariant_of-self
invariant_of-self c =
    let sheet = c.args.self.now in
    let rs = vec_items sheet.records in
    let n = c.args.node in
    let p = c.push_reserved.ensures in
    let items : vec_items c.push_reserved.new.self ≡ rs ++ fresh n ∷ [] = p.items ∙ ap (λ r. rs ++ r ∷ []) c.new.ensures in
    let all = ap nodes items ∙ nodes_push rs n in
    record {
      few = omega (arith, sheet.few, count_is sheet);
      room = omega arith;
      grounded = subst Grounded (sym all) (grounded_more (nodes rs) n sheet.grounded (judged_fits _ n (sym c.in_ok-judge.ensures)));
      distinct = subst Distinct (sym all) (distinct_more (nodes rs) n sheet.distinct (sym c.in_default.ensures));
      inside = subst (Inside (vec_len c.push_reserved.new.self)) (sym (ap memo items ∙ memo_push rs n)) (inside_more (vec_len sheet.records) _ (memo rs) sheet.inside (omega arith));
    }

pub returns : goal.returns
returns c =
    let sheet = c.args.self.now in
    let S = state sheet in
    let rs = vec_items sheet.records in
    let n = c.args.node in
    let items : vec_items c.push_reserved.new.self ≡ rs ++ fresh n ∷ [] = c.push_reserved.ensures.items ∙ ap (λ r. rs ++ r ∷ []) c.new.ensures in
    let all = ap nodes items ∙ nodes_push rs n in
    let settled = ap memo items ∙ memo_push rs n in
    let number = c.count-k.ensures in
    let room : count S < 60 = omega (arith, at_most sheet, c.if-k-eq-MOST.false) in
    record {
      does = (λ i. (record { nodes = all i; memo = settled i }, Ok (number i))) ∙ entering_new S n (sym c.in_ok-judge.ensures) (sym c.in_default.ensures) room;
      law = subst₂ (λ l k. Entered S.nodes n l k) (sym all) (sym number) (entered_new S.nodes n);
    }
