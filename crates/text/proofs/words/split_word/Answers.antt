use Rattle.std.proofs.Common.{arith}
use Rattle.std.proofs.lemmas.Grind.{common_steps}
use Rattle.text.proofs.SplitWords.{words_first, first_shorter}
use Rattle.text.proofs.words.split_word.Goals as goal

pub returns-then-is_empty-clause-words : goal.returns-then-is_empty-clause-words
returns-then-is_empty-clause-words c = grind (arith, common_steps, words_first)

pub returns-clause-words : goal.returns-clause-words
returns-clause-words c = grind (arith, common_steps, words_first)

pub returns-clause-shorter : goal.returns-clause-shorter
returns-clause-shorter c = grind (arith, common_steps, first_shorter)
