-- What is known of a value that is there if a fact holds.
use Rattle.std.proofs.Common.{◌≡◌, ap}
use Rattle.std.specs.Prelude.{Option, Some, None, SomeIff}

pub some_of : {A P : Type 0} {v : A} {o : Option A} → SomeIff o P v → P → o ≡ Some v
some_of {o = None} h p = absurd (h p)
some_of {o = Some x} h p = ap Some h.1
