use Rattle.std.proofs.Common.{◌≡◌, [], vec_items}
use Rattle.text.specs.Words.{words_of}
use Rattle.command.specs.Slots.{listed}
use Rattle.command.proofs.slots.listed.Given as goal

abbrev pub invariant-loop-word : goal.invariant-loop-word
invariant-loop-word l = listed (vec_items l.slots) l.word-iterator ≡ listed [] (words_of l.words)
