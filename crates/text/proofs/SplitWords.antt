-- A line's first word, and its other words.
use Rattle.std.proofs.Common.{◌≡◌, ℕ, ◌+◌, ◌<◌, Bool, true, false, cond, eqb, List, [], ◌∷◌, ◌++◌, length, take, drop, Some, None, Option, refl, ap, ◌∙◌, append_assoc, append-nil, one-add, arith, length-drop}
use Rattle.text.specs.Words.{reach, first_of, first_word, unless_empty, words_behind, words_of, spread, trimmed}

-- a word that is begun goes on to the next space
begun_on : (w : List ℕ) (b : ℕ) (bs : List ℕ) (s : Bool) → eqb b 32 ≡ s
    → words_behind (w ++ b ∷ []) bs ≡ unless_empty ((w ++ b ∷ []) ++ take (reach 32 bs) bs) (words_of (drop (reach 32 bs) bs))
    → words_behind w (b ∷ bs) ≡ unless_empty (w ++ take (reach 32 (b ∷ bs)) (b ∷ bs)) (words_of (drop (reach 32 (b ∷ bs)) (b ∷ bs)))
begun_on w b bs true e more = rw (e, append-nil w, e)
begun_on w b bs false e more = rw (e, one-add) (more ∙ ap (λ l. unless_empty l (words_of (drop (reach 32 bs) bs))) (append_assoc w (b ∷ []) (take (reach 32 bs) bs)))

begun : (w l : List ℕ) → words_behind w l ≡ unless_empty (w ++ take (reach 32 l) l) (words_of (drop (reach 32 l) l))
begun w [] = rw (append-nil w)
begun w (b ∷ bs) = begun_on w b bs (eqb b 32) refl (begun (w ++ b ∷ []) bs)

by_space : (b : ℕ) (bs : List ℕ) (s : Bool) → eqb b 32 ≡ s → words_of bs ≡ spread words_of (first_word bs) → words_of (b ∷ bs) ≡ spread words_of (first_word (b ∷ bs))
by_space b bs true e more = rw e more
by_space b bs false e more = rw (e, one-add, e) (begun (b ∷ []) bs)

pub words_first : (l : List ℕ) → words_of l ≡ spread words_of (first_word l)
words_first [] = refl
words_first (b ∷ bs) = by_space b bs (eqb b 32) refl (words_first bs)

-- what stands behind the first word is shorter than the line
abbrev behind_first : Option (List ℕ × List ℕ) → List ℕ
behind_first None = []
behind_first (Some p) = p.1

shorter_by : (b : ℕ) (bs f r : List ℕ) (s : Bool) → eqb b 32 ≡ s → (Some (f, r) ≡ first_word bs → length r < length bs) → Some (f, r) ≡ first_of (cond s (trimmed bs) (b ∷ bs)) → length r < length (b ∷ bs)
shorter_by b bs f r true e more h = let lt = more h in omega arith
shorter_by b bs f r false e more h =
    let rest : r ≡ drop (reach 32 (b ∷ bs)) (b ∷ bs) = ap behind_first h in
    let one : reach 32 (b ∷ bs) ≡ 1 + reach 32 bs = rw e in
    omega (arith, ap length rest, length-drop (reach 32 (b ∷ bs)) (b ∷ bs))

pub first_shorter : (l f r : List ℕ) → Some (f, r) ≡ first_word l → length r < length l
first_shorter [] f r h = absurd (cc)
first_shorter (b ∷ bs) f r h = shorter_by b bs f r (eqb b 32) refl (first_shorter bs f r) h
