use Rattle.std.proofs.Common.{◌≡◌, ℕ, ◌*◌, ◌/◌, ◌^◌, ◌<◌, sym, ap, ◌∙◌, subst, mul-zero, arith}
use Prim.Native.Nat.{◌∣◌}
use native.Mathlib.Nat.{eq-zero_of_zero-dvd}
use Rattle.std.specs.Option.{SomeIff}
use Rattle.divisors.specs.Divisors.{gcd, lcm}
use Rattle.divisors.specs.Gcds.{gcd_divides_right}
use Rattle.divisors.proofs.common.lcm.Goals as goal

lcm_of_zeros : (a b : ℕ) → gcd a b ≡ 0 → lcm a b ≡ 0
lcm_of_zeros a b e =
    let zero_divides : 0 ∣ b = subst (λ g. g ∣ b) e (gcd_divides_right a b) in
    ap (λ x. a / gcd a b * x) (eq-zero_of_zero-dvd zero_divides) ∙ mul-zero (a / gcd a b)

pub returns-then-g-eq0 : goal.returns-then-g-eq0
returns-then-g-eq0 c =
    let is = lcm_of_zeros c.args.a c.args.b (sym c.gcd-g.ensures ∙ c.if-g-eq0.true) in (omega arith, sym is)

pub returns : goal.returns
returns c =
    let is : c.args.a / c.gcd-g.result * c.args.b ≡ lcm c.args.a c.args.b = ap (λ g. c.args.a / g * c.args.b) c.gcd-g.ensures in
    subst (λ l. SomeIff c.checked_mul.result (l < 2 ^ 32) l) is c.checked_mul.ensures
