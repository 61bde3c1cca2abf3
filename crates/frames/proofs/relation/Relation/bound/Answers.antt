use Rattle.std.proofs.Common.{◌<◌, rules, arith}
use Rattle.frames.specs.Order.{best, bound}
use Rattle.frames.proofs.Searches.{first_of_find}
use Rattle.frames.proofs.relation.Relation.bound.Goals as goal

pub returns : goal.returns
unfolding bound
returns c =
    λ left right.
    first_of_find c.args.self.size (best c.args.self.size c.args.self.word c.args.up c.args.a c.args.b) _ _ _ c.find.ensures.ran
    (λ x b q k. (search rules, λ lt. let third : x < 8 = omega (arith, c.args.self.few) in search rules))
