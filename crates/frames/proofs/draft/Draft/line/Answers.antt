use Rattle.std.proofs.Common.{◌≡◌, ◌+◌, ◌*◌, ◌^◌, refl, subst, arith}
use lib.Bits.{bit_or}
use Rattle.frames.specs.Drafts.{Drafted}
use Rattle.frames.specs.Laws.{Lined}
use Rattle.frames.specs.View.{draft_of}
use Rattle.frames.proofs.Words.{le_or}
use Rattle.frames.proofs.draft.Draft.line.Goals as goal

pub returns-clause-law : goal.returns-clause-law
returns-clause-law c =
    let d = c.args.self.now in
    let few = d.lines.few in
    let a = c.args.a in
    let b = c.args.b in
    let D : Drafted = record { size = d.lines.size; lines = bit_or d.lines.word (2 ^ (8 * a + b)) } in
    let drawn : D ≡ record { size = c.relate.new.self.size; lines = c.relate.new.self.word } = grind (arith, c.relate.ensures) in
    subst (Lined (draft_of d) a b) drawn
    (record {
      same_size = refl;
      left = omega arith;
      right = omega arith;
      lines = λ x y p q. le_or d.lines.word a b x y (omega arith) (omega arith);
    })
