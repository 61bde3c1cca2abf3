-- What a desk is to its callers.
use Rattle.std.specs.Option.{option_map}
use Rattle.sheet.specs.View.{state}
use Rattle.frames.specs.View.{draft_of, frame_of}
use Rattle.desk.specs.declared.desk.Desk.{Desk}
use Rattle.desk.specs.Desks.{Desked}

abbrev pub desk_of : Desk → Desked
desk_of d = record { sheet = state d.sheet; draft = option_map draft_of d.draft; frame = option_map frame_of d.frame }
