use Rattle.std.proofs.Common.{◌∷◌, codes, sym, ap, ◌∙◌, arith, rules}
use Rattle.std.proofs.lemmas.Slice.Eq.{text_from_reads}
use Rattle.text.specs.Words.{words_of}
use Rattle.command.specs.Trials.{site_of}
use Rattle.command.proofs.trial.site_of.Goals as goal

pub returns-in-divisors : goal.returns-in-divisors
returns-in-divisors c =
    let first = text_from_reads c.in_ok-first.first.now (codes "divisors") (omega arith) (search rules) in
    c.numbered_site.ensures ∙ sym (ap site_of c.in_ok-first.ensures.words ∙ ap (λ w. site_of (w ∷ words_of c.in_ok-first.rest.now)) first)

pub returns-in_default : goal.returns-in_default
returns-in_default c = search rules
