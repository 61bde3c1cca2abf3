-- The constant that has all verbs.
use Rattle.std.proofs.Common.{◌≡◌, refl}
use Rattle.command.specs.declared.verb.TheConstants.Verb.{ALL}
use Rattle.command.specs.Verbs.{all}

pub all_verbs : ALL ≡ all
all_verbs = refl
