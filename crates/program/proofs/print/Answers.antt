use Rattle.program.proofs.print.Goals as goal

pub returns : goal.returns
returns g c = (c.as_slice.result.now, c.in_ok-transcribe.field-0, c.in_ok-transcribe.ensures)
