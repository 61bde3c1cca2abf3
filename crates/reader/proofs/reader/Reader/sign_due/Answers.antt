use Rattle.std.proofs.Common.{ap}
use Rattle.reader.specs.Faults.{row}
use Rattle.reader.specs.Reading.{sign_of}
use Rattle.reader.proofs.Steps.{passed, token_failed, no_sign}
use Rattle.reader.proofs.reader.Reader.sign_due.Goals as goal

pub returns-in_err-token : goal.returns-in_err-token
returns-in_err-token c = rw (passed _ _ c.from_residual.ensures.1) (token_failed (λ t text ns at. sign_of t ns at t.kind) c.in_err-token.ensures.reads)

pub returns-in_default : goal.returns-in_default
returns-in_default c = rw (ap row c.fault.ensures) (no_sign c.in_ok-token.ensures.reads c.in_default.not-Plus c.in_default.not-Star)
