use Rattle.std.proofs.Common.{◌≡◌, ℕ, ◌^◌, ◌<◌, ◌≤◌, Some, None, Option, unwrap_or, sym, ◌∙◌, subst, arith}
use Prim.Native.Nat.{◌∣◌}
use native.Mathlib.Nat.{pos_of_dvd_of_pos, le_of_dvd}
use Rattle.std.specs.Option.{SomeIff}
use Rattle.divisors.specs.Divisors.{lcm, LeastCommonMultiple}
use Rattle.divisors.specs.Gcds.{lcm_divides, lcm_least}
use Rattle.divisors.proofs.divisors.DivisorsLattice.join.Goals as goal

value_of_checked : {P : Type 0} {v : ℕ} (r : Option ℕ) (other : ℕ) → P → SomeIff r P v → unwrap_or r other ≡ v
value_of_checked None other p h = absurd (h p)
value_of_checked (Some x) other p h = h.1

-- the least common multiple of two divisors of n is small, since n is
lcm_small : (n a b : ℕ) → 0 < n → n < 2 ^ 32 → a ∣ n → b ∣ n → lcm a b < 2 ^ 32
lcm_small n a b pos small p q = let within : lcm a b ≤ n = le_of_dvd pos (lcm_divides a b n pos p q) in omega arith

pub returns : goal.returns
returns c =
    let a = c.args.a in
    let b = c.args.b in
    let d = c.args.self.now in
    let fits = lcm_small d.n a b d.positive d.small in
    let is : a ∣ d.n → b ∣ d.n → c.unwrap_or.result ≡ lcm a b = λ p q. c.unwrap_or.ensures ∙ value_of_checked c.lcm.result 0 (fits p q) c.lcm.ensures in
    record {
      joins = is;
      law = λ p q. subst (LeastCommonMultiple a b) (sym (is p q)) (lcm_least a b (pos_of_dvd_of_pos p d.positive));
    }
