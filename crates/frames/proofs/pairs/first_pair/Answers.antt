use Rattle.std.proofs.Common.{◌/◌, ◌%◌, refl, rules, arith}
use Rattle.std.proofs.lemmas.Iterator.{YieldsList-from_range, YieldsList-from_map}
use Rattle.std.proofs.lemmas.Iterator.Consumers.{YieldsList-at}
use Rattle.frames.proofs.Searches.{pair_of_find}
use Rattle.frames.proofs.pairs.first_pair.Goals as goal

pub returns : goal.returns
returns g c =
    λ says h. pair_of_find says _ _ c.find.result c.find.ensures.ran
    (YieldsList-from_map _ (λ q. (q / 8, q % 8)) (YieldsList-at c.map.ensures.source (YieldsList-from_range 0 64 64 refl (omega arith))) c.map.ensures.closure (λ x r q k. search rules))
    (λ x b q k. (search rules, λ l m. h x.0 x.1 b l m (search rules)))
