use Rattle.std.proofs.Common.{sym, subst}
use native.Mathlib.Nat.{pos_of_dvd_of_pos}
use Rattle.divisors.specs.Divisors.{GreatestCommonDivisor}
use Rattle.divisors.specs.Gcds.{gcd_greatest}
use Rattle.divisors.proofs.divisors.DivisorsLattice.meet.Goals as goal

pub returns : goal.returns
returns c =
    let a = c.args.a in
    let b = c.args.b in
    let is = c.gcd.ensures in
    record {
      meets = λ p q. is;
      law = λ p q. subst (GreatestCommonDivisor a b) (sym is) (gcd_greatest a b (pos_of_dvd_of_pos p c.args.self.now.positive));
    }
