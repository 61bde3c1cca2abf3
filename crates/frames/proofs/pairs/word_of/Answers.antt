use Rattle.std.proofs.Common.{◌≡◌, Bool, ◌*◌, ◌/◌, ◌%◌, ◌^◌, rules, arith}
use lib.Bits.{bit_or}
use Rattle.std.specs.Int.{from_bool}
use Rattle.frames.specs.Tests.{at, word_below}
use Rattle.frames.proofs.Words.{word_none, word_or}
use Rattle.frames.proofs.Searches.{kept_of_fold}
use Rattle.frames.proofs.pairs.word_of.Goals as goal

pub returns : goal.returns
returns g c =
    λ says h. kept_of_fold 64 (λ k w. w ≡ word_below k (at says)) _ 0 c.fold.result c.fold.ensures.ran (word_none (at says))
    (λ x w v q k. (
      search rules,
      λ lt e.
          let s : (t : Bool) × goal.F-post g c.args.test (x / 8) (x % 8) t × (v ≡ bit_or w ((from_bool t * 2 ^ x) % 2 ^ 64)) = search rules in
          word_or x (at says) w v s.0 lt e (h (x / 8) (x % 8) s.0 (omega arith) (omega arith) s.1) s.2,
    ))
