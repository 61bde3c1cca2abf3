-- The text of a trial, slot by slot.
use Rattle.std.proofs.Common.{◌≡◌, ℕ, ◌+◌, ◌<◌, List, [], ◌∷◌, ◌++◌, length, get_or, take, decimal, sym, ap, ◌∙◌, append_assoc, append-nil}
use Rattle.std.proofs.lemmas.List.{take_more}
use Rattle.desk.specs.Answers.{numbers_text}

numbers_push : (xs : List ℕ) (n : ℕ) → numbers_text xs ++ 32 ∷ decimal n ≡ numbers_text (xs ++ n ∷ [])
numbers_push [] n = ap (λ l. 32 ∷ l) (sym (append-nil (decimal n)))
numbers_push (x ∷ xs) n = ap (λ l. 32 ∷ l) (append_assoc (decimal x) (numbers_text xs) (32 ∷ decimal n) ∙ ap (λ l. decimal x ++ l) (numbers_push xs n))

-- one slot more
pub numbers_more : (xs ys : List ℕ) (i : ℕ) → ys ≡ xs → i < length ys → numbers_text (take i xs) ++ 32 ∷ decimal (get_or ys i 0) ≡ numbers_text (take (i + 1) xs)
numbers_more xs ys i e h =
    ap (λ l. numbers_text (take i l) ++ 32 ∷ decimal (get_or ys i 0)) (sym e) ∙ numbers_push (take i ys) (get_or ys i 0) ∙ ap numbers_text (sym (take_more ys i 0 h)) ∙ ap (λ l. numbers_text (take (i + 1) l)) e
