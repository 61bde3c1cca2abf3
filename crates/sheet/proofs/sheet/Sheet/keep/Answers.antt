use Rattle.std.proofs.Common.{◌≡◌, ◌≤◌, length, take, vec_items, vec_len, sym, ap, ◌∙◌, subst, subst₂, arith}
use lib.ListN.{length-map}
use Rattle.std.proofs.lemmas.List.{length-take}
use Rattle.sheet.specs.Nodes.{Grounded, Distinct}
use Rattle.sheet.specs.Records.{nodes, memo, within, Inside}
use Rattle.sheet.proofs.Nodes.{grounded_less, distinct_less}
use Rattle.sheet.proofs.Records.{nodes_shorter, memo_shorter, inside_shorter}
use Rattle.sheet.proofs.sheet.Sheet.keep.Goals as goal

pub invariant_of-self : goal.invariant_of-self
invariant_of-self c =
    let sheet = c.args.self.now in
    let n = c.args.n in
    let rs = vec_items sheet.records in
    let items = c.shorten.ensures.items in
    let fit : n ≤ length rs = omega (arith, sheet.records.ok.0) in
    let long : vec_len c.shorten.new.records ≡ n = omega (arith, c.shorten.new.records.ok.0, ap length items, length-map (take n rs) (within n), length-take n rs) in
    let all = ap nodes items ∙ nodes_shorter n rs in
    record {
      few = omega (arith, sheet.few);
      room = omega (arith, sheet.room, c.shorten.ensures.capacity);
      grounded = subst Grounded (sym all) (grounded_less (nodes rs) n sheet.grounded);
      distinct = subst Distinct (sym all) (distinct_less (nodes rs) n sheet.distinct);
      inside = subst₂ (λ k l. Inside k (memo l)) (sym long) (sym items) (inside_shorter n rs fit);
    }

pub returns-then-n-len : goal.returns-then-n-len
returns-then-n-len c =
    let rs = vec_items c.args.self.now.records in
    let items = c.shorten.ensures.items in
    let all = ap nodes items ∙ nodes_shorter c.args.n rs in
    let settled = ap memo items ∙ memo_shorter c.args.n rs (omega (arith, c.args.self.now.records.ok.0)) in
    λ i. record { nodes = all i; memo = settled i }
