use Rattle.std.proofs.Common.{◌≡◌, ◌<◌, rules, arith}
use Rattle.frames.specs.Tests.{every}
use Rattle.frames.specs.Order.{follows}
use Rattle.frames.proofs.Searches.{every_of_all}
use Rattle.frames.proofs.relation.Relation.is_best.Goals as goal

pub returns-then-faces-2 : goal.returns-then-faces-2
returns-then-faces-2 c =
    λ first second third.
    let n = c.args.self.size in
    let p = follows c.args.self.word c.args.up c.args.a c.args.b c.args.c in
    let all : c.all.result ≡ every n p =
    every_of_all n p _ _ c.all.result c.all.ensures.ran (λ x b q k. (search rules, λ lt. let fourth : x < 8 = omega (arith, c.args.self.few) in search rules)) in
    grind (arith, all)
