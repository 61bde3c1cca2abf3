use Rattle.std.proofs.Common.{◌≡◌, ◌++◌, string_bytes}
use Rattle.text.specs.Lines.{lines_of}
use Rattle.desk.specs.Desks.{cleared}
use Rattle.desk.specs.View.{desk_of}
use Rattle.desk.specs.Scripts.{transcript}
use Rattle.desk.proofs.script.transcribe.Given as goal

abbrev pub invariant-loop-line : goal.invariant-loop-line
invariant-loop-line l = string_bytes l.out ++ transcript l.verbs (desk_of l.desk) l.line-iterator ≡ transcript l.verbs cleared (lines_of l.script)
