use Rattle.std.proofs.Common.{Decides}
use Prim.Native.Nat.{◌∣◌}
use native.Mathlib.Nat.{pos_of_dvd_of_pos}
use Rattle.std.proofs.lemmas.Bool.Decides.{Decides-at, Decides-like}
use Rattle.free_lattice.proofs.Bounds.{below_of_le, le_of_below}
use Rattle.divisors.specs.Divisors.{divides}
use Rattle.divisors.specs.Divisibility.{decides_divides, divisors_bounded}
use Rattle.divisors.proofs.divisors.DivisorsLattice.below.Goals as goal

pub returns : goal.returns
returns c =
    let a = c.args.a in
    let b = c.args.b in
    let d = c.args.self.now in
    let r = c.divides.result in
    let bounded = divisors_bounded d.n d.positive in
    let decides : b ∣ d.n → Decides r (a ∣ b) = λ q. Decides-at r (divides a b) c.divides.ensures (decides_divides a b (pos_of_dvd_of_pos q d.positive)) in
    record {
      compares = λ p q. Decides-like r (below_of_le bounded a b p q) (le_of_below bounded a b p q) (decides q);
      law = λ p q. decides q;
    }
