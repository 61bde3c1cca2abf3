use Rattle.std.proofs.Common.{◌≡◌, sym, ap, ◌+◌, ◌∙◌, rules, arith}
use Rattle.frames.specs.Tests.{word}
use Rattle.frames.specs.Closing.{begun, linked, chained, closure}
use Rattle.frames.specs.View.{Made}
use Rattle.frames.proofs.Chains.{chained_none, chained_more}
use Rattle.frames.proofs.Searches.{kept_of_fold}
use Rattle.frames.proofs.relation.Relation.closure.Goals as goal

pub returns : goal.returns
unfolding closure
returns c =
    let R = c.args.self in
    let lines = word (begun R.size R.word) in
    kept_of_fold R.size (λ k order. Made R (chained k lines) order) _ c.begun.result c.fold.result c.fold.ensures.ran
    (grind (arith, c.begun.ensures, chained_none lines))
    (λ k order next q call. (
      search rules,
      λ lt kept.
          let turn : Made order (word (linked order.word k)) next = search rules in
          let same : order.word ≡ chained k lines = grind (arith, kept) in
          let linked_same : word (linked order.word k) ≡ chained (k + 1) lines = ap (λ w. word (linked w k)) same ∙ sym (chained_more k lines) in
          grind (arith, kept, turn, linked_same),
    ))
