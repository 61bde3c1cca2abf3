use Rattle.std.proofs.Common.{drop, sym, subst₂}
use Rattle.reader.specs.Faults.{told}
use Rattle.reader.specs.Grammar.{Cuts}
use Rattle.reader.proofs.Cutting.{step}
use Rattle.reader.proofs.Spelling.{cuts_law}
use Rattle.reader.proofs.cutter.Cutter.next.Goals as goal

pub returns-clause-answer : goal.returns-clause-answer
returns-clause-answer c = (step c.args.self.now.text.now c.args.self.now.at _ _ (told c.judge.result) c.blanks.ensures.value c.size.ensures.value c.judge.ensures).answer

pub returns-clause-law : goal.returns-clause-law
returns-clause-law c =
    let text = c.args.self.now.text.now in
    let at = c.args.self.now.at in
    let s = step text at c.blanks.result c.size.result (told c.judge.result) c.blanks.ensures.value c.size.ensures.value c.judge.ensures in
    subst₂ (λ r n. Cuts (drop at text) r (drop n text)) (sym s.answer) (sym s.after) (cuts_law text at)
