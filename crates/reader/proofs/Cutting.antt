-- What is cut from a text.
use Rattle.std.proofs.Common.{◌≡◌, ℕ, ◌+◌, ◌-◌, List, length, take, drop, Option, Result, sym, ap, ◌∙◌, arith}
use Rattle.std.proofs.lemmas.List.{take_rest, drop-drop}
use Rattle.reader.specs.declared.token.Token.{Token}
use Rattle.reader.specs.Faults.{Row}
use Rattle.reader.specs.Cutting.{blanks, size, judge, piece, cut, behind}

pub record Step (text : List ℕ) (at b s : ℕ) (r : Result (Option Token) Row) : Type 0 where
  pub answer : r ≡ cut at (drop at text)
  pub after : at + b + s ≡ behind at (drop at text)

pub step : (text : List ℕ) (at b s : ℕ) (r : Result (Option Token) Row)
    → b ≡ blanks (take (length text - at) (drop at text))
    → s ≡ size (take (length text - (at + b)) (drop (at + b) text))
    → r ≡ judge (at + b) (take (at + b + s - (at + b)) (drop (at + b) text))
    → Step text at b s r
step text at b s r hb hs hr =
    let rest : List ℕ = drop at text in
    let eb : b ≡ blanks rest = hb ∙ ap blanks (take_rest text at) in
    let u : drop (at + b) text ≡ drop b rest = sym (drop-drop b at text) in
    let es : s ≡ size (drop b rest) = hs ∙ ap size (take_rest text (at + b) ∙ u) in
    let same : at + b + s - (at + b) ≡ s = omega arith in
    let er : r ≡ judge (at + b) (piece (drop b rest)) = hr ∙ ap (λ n. judge (at + b) (take n (drop (at + b) text))) (same ∙ es) ∙ ap (λ l. judge (at + b) (take (size (drop b rest)) l)) u in
    record {
      answer = er ∙ ap (λ n. judge (at + n) (piece (drop n rest))) eb;
      after = ap (λ n. at + b + n) es ∙ ap (λ n. at + n + size (drop n rest)) eb;
    }
