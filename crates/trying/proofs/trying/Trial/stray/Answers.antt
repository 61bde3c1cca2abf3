use Rattle.std.proofs.Common.{subst₂, rules, arith}
use Rattle.std.specs.Option.{MatchOption}
use Rattle.trying.specs.Trying.{Ready, Stray}
use Rattle.trying.specs.Trials.{means, nodes}
use Rattle.trying.proofs.Strays.{stray_of_find}
use Rattle.trying.proofs.trying.Trial.stray.Goals as goal

pub returns : goal.returns
returns g c =
    let t = c.args.self.now in
    let m = means t in
    let ns = nodes t in
    let s = t.slots.now in
    subst₂ (λ n r. MatchOption r (Ready m ns n s) (Stray m ns n s)) (omega arith) (grind arith)
    (stray_of_find m ns s _ _ _ c.find.result c.find.ensures.ran (λ x q h. search rules) (λ x q h. (search rules, search rules)))
