-- The definition of reading at a token that is due, and at a term.
use Rattle.std.proofs.Common.{◌≡◌, ℕ, zero, suc, ◌-◌, ◌<◌, false, List, length, drop, Some, Ok, sym, refl, ap, ◌∙◌, arith}
use Rattle.sheet.specs.declared.node.Node.{Node}
use Rattle.reader.specs.declared.token.Kind.{Kind}
use Rattle.reader.specs.declared.token.Kind.TheVariants.{Open, Close, Plus, Star, Variable}
use Rattle.reader.specs.declared.token.Token.{Token}
use Rattle.reader.specs.Cutting.{cut, behind}
use Rattle.reader.specs.Reading.{Outcome, ended, bind, refuse, or_end, due, is_close, read_term, read_list, by_kind}

pub due_some : {A : Type 0} (text : List ℕ) (ns : List Node) (at : ℕ) (k : Token → List Node → ℕ → Outcome A) (t : Token) → cut at (drop at text) ≡ Ok (Some t) → due text ns at k ≡ k t ns (behind at (drop at text))
due_some text ns at k t e = ap (λ r. bind (ended r ns (behind at (drop at text))) (λ o ns₁ at₁. or_end o (refuse 3 (length text) ns₁ at₁) (λ t'. k t' ns₁ at₁))) e

pub not_close : (k : Kind) → (k ≡ Close → ⊥) → is_close k ≡ false
not_close Close h = absurd (h refl)
not_close Open h = refl
not_close Plus h = refl
not_close Star h = refl
not_close (Variable c) h = refl

module _ (text : List ℕ) (t : Token) (ns : List Node) (at : ℕ) where
  term_by : (left : ℕ) → (o : Outcome ℕ) × (by_kind t ns at o t.kind ≡ read_term left text t ns at)
  term_by zero = (refuse 5 t.place ns at, refl)
  term_by (suc left) = (read_list (read_term left text) text ns at, refl)

  pub term_open : (left : ℕ) → t.kind ≡ Open → 0 < left → read_list (read_term (left - 1) text) text ns at ≡ read_term left text t ns at
  term_open zero is some = absurd (omega arith)
  term_open (suc left) is some =
      let down : suc left - 1 ≡ left = omega arith in
      ap (λ n. read_list (read_term n text) text ns at) down ∙ sym (ap (by_kind t ns at (read_list (read_term left text) text ns at)) is)
