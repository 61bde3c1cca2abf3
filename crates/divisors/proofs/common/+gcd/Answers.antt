use Rattle.std.proofs.Common.{sym, ap, ◌∙◌}
use Rattle.divisors.specs.Divisors.{gcd}
use Rattle.divisors.specs.Gcds.{gcd_division}
use Rattle.divisors.proofs.common.+gcd.Goals as goal

pub returns-then-b-eq0 : goal.returns-then-b-eq0
returns-then-b-eq0 t c = sym (ap (gcd c.args.a) c.if-b-eq0.true)

pub returns-else-b-eq0 : goal.returns-else-b-eq0
returns-else-b-eq0 t c = c.gcd.ensures ∙ gcd_division c.args.a c.args.b
