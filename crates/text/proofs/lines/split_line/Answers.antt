use Rattle.std.proofs.Common.{sym, ap, ◌∙◌, ◌+◌, arith}
use Rattle.std.proofs.lemmas.Grind.{common_steps}
use Rattle.std.proofs.lemmas.List.{take_rest}
use Rattle.text.specs.Words.{spread}
use Rattle.text.specs.Lines.{lines_of}
use Rattle.text.proofs.SplitLines.{lines_first, line_at}
use Rattle.text.proofs.lines.split_line.Goals as goal

pub returns-in-None-2-clause-lines : goal.returns-in-None-2-clause-lines
returns-in-None-2-clause-lines c = grind (arith, common_steps, lines_first)

pub returns-in-Some-clause-value : goal.returns-in-Some-clause-value
returns-in-Some-clause-value c =
    let s = c.args.script.now in
    let n = c.in-Some.end in
    grind (arith, common_steps, take_rest s (n + 1), line_at s n)

pub returns-in-Some-clause-lines : goal.returns-in-Some-clause-lines
returns-in-Some-clause-lines c = lines_first c.args.script.now ∙ ap (spread lines_of) (sym (returns-in-Some-clause-value c))
