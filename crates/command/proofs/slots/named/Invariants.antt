use Rattle.std.proofs.Common.{◌≡◌, replicate, vec_items}
use Rattle.sheet.specs.View.{nodes_of}
use Rattle.text.specs.Words.{words_of}
use Rattle.command.specs.Slots.{named, up_to}
use Rattle.command.proofs.slots.named.Given as goal

abbrev pub invariant-loop-word : goal.invariant-loop-word
invariant-loop-word l = let ns = nodes_of l.sheet in named ns (vec_items l.slots) l.word-iterator ≡ named ns (replicate (up_to ns l.m) 0) (words_of l.words)
