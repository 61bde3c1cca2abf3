use Rattle.std.proofs.Common.{◌≡◌, drop}
use Rattle.text.proofs.Numerals.{figures}
use Rattle.text.proofs.words.number.Given as goal

abbrev pub invariant-loop-b : goal.invariant-loop-b
invariant-loop-b l = figures l.n (drop l.b-index l.word) ≡ figures 0 l.word
