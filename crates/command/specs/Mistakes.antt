-- The text of a line's mistake.
use Rattle.std.specs.Prelude.{ℕ, List, ◌++◌, codes}
use Rattle.command.specs.declared.mistake.Mistake.{Mistake}
use Rattle.command.specs.declared.mistake.Mistake.TheVariants.{Misused, Unknown}
use Rattle.command.specs.Verbs.{form}

abbrev pub mistake_text : Mistake → List ℕ
mistake_text (Misused v) = codes "usage: " ++ form v
mistake_text Unknown = codes "unknown command"
