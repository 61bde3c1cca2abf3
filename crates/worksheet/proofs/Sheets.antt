-- A desk does to the lines of a program with the sheet's verbs what the sheet alone does.
use Rattle.std.proofs.Common.{◌≡◌, ℕ, Bool, true, false, cond, List, [], ◌∷◌, ◌++◌, Some, None, Ok, Option, IfOk, refl, ap, ◌∙◌}
use Rattle.std.specs.Prelude.{codes, ok_or, ◌==◌, Result}
use Rattle.std.specs.Option.{option_map}
use Rattle.std.specs.Str.{bytes_eq}
use Rattle.sheet.specs.declared.node.Node.{Node}
use Rattle.std.proofs.lemmas.Result.{IfOk-weaker}
use Rattle.sheet.specs.State.{State, blank}
use Rattle.text.specs.Words.{first_word, words_of}
use Rattle.command.specs.declared.verb.Verb.TheVariants as verb
use Rattle.command.specs.declared.mistake.Mistake.TheVariants.{Misused}
use Rattle.command.specs.Commands.{Meaning, enters, blanks, alone, node_of, said_by, said, spoken, saying, asked}
use Rattle.desk.specs.Desks.{Desked, cleared}
use Rattle.desk.specs.Scripts as desk
use Rattle.desk.specs.Scripts.{answer_line}
use Rattle.worksheet.specs.Scripts.{verbs, meaning_step, line_step, transcript}

abbrev with_sheet : State → Desked
with_sheet S = record { sheet = S; draft = None; frame = None }

-- what a line of the meaning m does to the sheet, it does to a desk with that sheet
abbrev Same : State → Meaning → Type 0
Same S m = desk.meaning_step (with_sheet S) m ≡ (with_sheet (meaning_step S m).0, (meaning_step S m).1)

same_enter : (S : State) (o : Option Node) → Same S (saying (ok_or (option_map enters o) (Misused verb.Enter)))
same_enter S None = refl
same_enter S (Some n) = refl

same_blank : (S : State) (ws : List (List ℕ)) → Same S (saying (ok_or (alone blanks ws) (Misused verb.Blank)))
same_blank S [] = refl
same_blank S (w ∷ ws) = refl

same_verb : (S : State) (e r b : Bool) (t : List ℕ) → Same S (saying (said_by (cond e (Some verb.Enter) (cond r (Some verb.Read) (cond b (Some verb.Blank) None))) t))
same_verb S true r b t = same_enter S (node_of (words_of t))
same_verb S false true b t = refl
same_verb S false false true t = same_blank S (words_of t)
same_verb S false false false t = refl

same_said : (S : State) (o : Option (List ℕ × List ℕ)) → Same S (saying (said verbs o))
same_said S None = refl
same_said S (Some p) = same_verb S (bytes_eq p.0 (codes "enter")) (bytes_eq p.0 (codes "read")) (bytes_eq p.0 (codes "blank")) p.1

same_line : (S : State) (l : List ℕ) → Same S (asked verbs l)
same_line S [] = refl
same_line S (b ∷ bs) = go (b == 35)
  where
    go : (comment : Bool) → Same S (cond comment (Ok None) (saying (spoken verbs (b ∷ bs))))
    go true = refl
    go false = same_said S (first_word (b ∷ bs))

same_transcript : (S : State) (ls : List (List ℕ)) → desk.transcript verbs (with_sheet S) ls ≡ transcript S ls
same_transcript S [] = refl
same_transcript S (l ∷ ls) =
    ap (λ (p : Desked × Option _). answer_line p.1 ++ desk.transcript verbs p.0 ls) (same_line S l)
    ∙ ap (λ t. answer_line (line_step S l).1 ++ t) (same_transcript (line_step S l).0 ls)

from_desk : (D : Desked) (S : State) → D ≡ with_sheet S → (ls : List (List ℕ)) → desk.transcript verbs D ls ≡ transcript S ls
from_desk D S is ls = ap (λ d. desk.transcript verbs d ls) is ∙ same_transcript S ls

also : {X E A : Type 0} (f : X → A) (r : Result X E) (a b : A) → a ≡ b → IfOk r (λ x. f x ≡ a) → IfOk r (λ x. f x ≡ b)
also f r a b e = IfOk-weaker r _ _ (λ x is. is ∙ e)

-- what a cleared desk answers is what a blank sheet answers
pub from_cleared : {X E : Type 0} (bytes : X → List ℕ) (r : Result X E) (ls : List (List ℕ)) → IfOk r (λ x. bytes x ≡ desk.transcript verbs cleared ls) → IfOk r (λ x. bytes x ≡ transcript blank ls)
from_cleared bytes r ls = also bytes r (desk.transcript verbs cleared ls) (transcript blank ls) (from_desk cleared blank refl ls)
