use Rattle.std.proofs.Common.{string_bytes}
use Rattle.text.specs.Lines.{lines_of}
use Rattle.worksheet.proofs.Sheets.{from_cleared}
use Rattle.worksheet.proofs.script.WorksheetProgram.transcribe.Goals as goal

pub returns : goal.returns
returns c = from_cleared string_bytes _ (lines_of c.args.script.now) c.transcribe.ensures
