use Rattle.std.proofs.Common.{eqb, not, arith, rules, tests}
use Rattle.std.proofs.lemmas.Iterator.{YieldsList-from_slice}
use Rattle.std.proofs.lemmas.Iterator.Search.{position_from_yields_List}
use Rattle.std.proofs.lemmas.List.Sums.{prefix_len-le-length}
use Rattle.text.proofs.words.first.Goals as goal

pub returns : goal.returns
returns c =
    let xs = c.args.bytes.now in
    let stop = c.args.stop in
    let told = position_from_yields_List (λ b. eqb b stop) _ _ c.position.result c.position.ensures.ran (YieldsList-from_slice xs cc) (λ x b q k. search (rules, tests)) in
    let within = prefix_len-le-length (λ b. not (eqb b stop)) xs in
    grind (arith, tests, told, within)
