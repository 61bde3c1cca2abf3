use Rattle.std.proofs.Common.{None, arith}
use Rattle.std.proofs.lemmas.Grind.{common_steps}
use Rattle.std.proofs.lemmas.List.{drop_all}
use Rattle.text.proofs.Numerals.{figures_more, numeral_figures}
use Rattle.text.proofs.words.number.Goals as goal

pub returns-in_err-n : goal.returns-in_err-n
returns-in_err-n c =
    let more = figures_more c.loop-b.n c.args.word.now c.loop-b.b-index None (omega arith) c.in_err-n.ensures c.loop-b.invariant in
    grind (arith, common_steps, numeral_figures)

pub returns : goal.returns
returns c = grind (arith, common_steps, drop_all, numeral_figures)
