-- A step of the reader.
--   token_due                  the next token, which must be there
--   Onward before after        the text and the sheet stay the same, the offset does not fall, and settled pairs stay
--   Reads before r after f     from `before` on, the reader has read what f says: the answer r came, and left it as `after`
use Rattle.std.specs.Prelude.{◌≡◌, ℕ, ◌≤◌, List, Ok, Result}
use Rattle.sheet.specs.declared.node.Node.{Node}
use Rattle.sheet.specs.View.{nodes_of, memo_of}
use Rattle.reader.specs.declared.reader.Reader.{Reader}
use Rattle.reader.specs.Faults.{Row}
use Rattle.reader.specs.declared.token.Token.{Token}
use Rattle.reader.specs.Reading.{Outcome, ended, due}

abbrev pub token_due : List ℕ → List Node → ℕ → Outcome Token
token_due text ns at = due text ns at (λ t ns' at'. ended (Ok t) ns' at')

pub record Onward (before after : Reader) : Type 0 where
  pub offset : before.cutter.at ≤ after.cutter.at
  pub text : after.cutter.text.now ≡ before.cutter.text.now
  pub sheet : after.sheet.ghost_name ≡ before.sheet.ghost_name
  pub memo : memo_of after.sheet.now ≡ memo_of before.sheet.now

pub record Reads {A : Type 0} (before : Reader) (r : Result A Row) (after : Reader) (reads : List ℕ → List Node → ℕ → Outcome A) : Type 0 where
  pub outcome : ended r (nodes_of after.sheet.now) after.cutter.at ≡ reads before.cutter.text.now (nodes_of before.sheet.now) before.cutter.at
  pub onward : Onward before after
