-- A script's first line, and its other lines.
use Rattle.std.proofs.Common.{◌≡◌, ℕ, zero, suc, ◌+◌, ◌-◌, ◌<◌, Bool, true, false, eqb, List, [], ◌∷◌, length, get_or, take, drop, Some, sym, refl, ap, ◌∙◌, one-add, arith, eq-eqb}
use mathlib.Core.Bool.{and-false}
use Rattle.std.proofs.lemmas.Bool.Decides.{nat_tests}
use Rattle.std.proofs.lemmas.List.{drop-drop, length-drop}
use Rattle.text.specs.Words.{reach, spread}
use Rattle.text.specs.Lines.{longer, lines_of, chomped, fed_line, first_line}

last_return : (l : List ℕ) (n : ℕ) → suc n ≡ length l → get_or l n 0 ≡ 13 → chomped l ≡ take n l
last_return [] n e h = absurd (omega arith)
last_return (b ∷ []) zero e h = rw (eq-eqb b 13 h)
last_return (b ∷ []) (suc n) e h = absurd (omega arith)
last_return (b ∷ c ∷ cs) zero e h = absurd (omega arith)
last_return (b ∷ c ∷ cs) (suc n) e h = ap (λ l. b ∷ l) (last_return (c ∷ cs) n (omega arith) h)

last_other : (l : List ℕ) (n : ℕ) → suc n ≡ length l → (get_or l n 0 ≡ 13 → ⊥) → chomped l ≡ l
last_other [] n e h = refl
last_other (b ∷ []) zero e h = let off : eqb b 13 ≡ false = grind (arith, nat_tests) in rw off
last_other (b ∷ []) (suc n) e h = absurd (omega arith)
last_other (b ∷ c ∷ cs) zero e h = absurd (omega arith)
last_other (b ∷ c ∷ cs) (suc n) e h = ap (λ l. b ∷ l) (last_other (c ∷ cs) n (omega arith) h)

pub with_return : (l : List ℕ) → 0 < length l → get_or l (length l - 1) 0 ≡ 13 → take (length l - 1) l ≡ chomped l
with_return l some h = sym (last_return l (length l - 1) (omega arith) h)

pub without_return : (l : List ℕ) → (0 < length l → get_or l (length l - 1) 0 ≡ 13 → ⊥) → l ≡ chomped l
without_return [] h = refl
without_return (b ∷ bs) h = sym (last_other (b ∷ bs) (length (b ∷ bs) - 1) (omega arith) (h (omega arith)))

carried : (b c : ℕ) (t d : List ℕ) → (b ∷ (fed_line (c ∷ t) d).0) ∷ lines_of (fed_line (c ∷ t) d).1 ≡ (fed_line (b ∷ c ∷ t) d).0 ∷ lines_of (fed_line (b ∷ c ∷ t) d).1
carried b c t [] = refl
carried b c t (x ∷ xs) = refl

-- a byte that is no line feed, before a byte c
before : (b c : ℕ) (cs : List ℕ) (f : Bool) → eqb c 10 ≡ f → (r : Bool) → eqb b 13 ≡ r → eqb b 10 ≡ false → lines_of (c ∷ cs) ≡ spread lines_of (first_line (c ∷ cs)) → lines_of (b ∷ c ∷ cs) ≡ spread lines_of (first_line (b ∷ c ∷ cs))
before b c cs true f true r e more = simp (e, f, r, one-add)
before b c cs true f false r e more = simp (e, f, r, one-add)
before b c cs false f r k e more = simp (e, f, and-false, one-add) (ap (longer b) (simp (f, one-add) at more) ∙ carried b c (take (reach 10 cs) cs) (drop (reach 10 cs) cs))

by_feed : (b : ℕ) (bs : List ℕ) (f : Bool) → eqb b 10 ≡ f → lines_of bs ≡ spread lines_of (first_line bs) → lines_of (b ∷ bs) ≡ spread lines_of (first_line (b ∷ bs))
by_feed b bs true f more = simp f
by_feed b [] false f more = simp (f, and-false, one-add)
by_feed b (c ∷ cs) false f more = before b c cs (eqb c 10) refl (eqb b 13) refl f more

pub lines_first : (l : List ℕ) → lines_of l ≡ spread lines_of (first_line l)
lines_first [] = refl
lines_first (b ∷ bs) = by_feed b bs (eqb b 10) refl (lines_first bs)

fed_line_some : (l d : List ℕ) → 0 < length d → (chomped l, drop 1 d) ≡ fed_line l d
fed_line_some l [] h = absurd (omega arith)
fed_line_some l (b ∷ bs) h = refl

-- the first line of a script with a line feed at n
pub line_at : (s : List ℕ) (n : ℕ) → n ≡ reach 10 s → n < length s → Some (chomped (take n s), drop (n + 1) s) ≡ first_line s
line_at [] n e h = absurd (omega arith)
line_at (b ∷ bs) n e h =
    let some : 0 < length (drop n (b ∷ bs)) = omega (arith, length-drop n (b ∷ bs)) in
    ap (λ d. Some (chomped (take n (b ∷ bs)), d)) (sym (drop-drop 1 n (b ∷ bs))) ∙ ap Some (fed_line_some (take n (b ∷ bs)) (drop n (b ∷ bs)) some)
    ∙ ap (λ k. Some (fed_line (take k (b ∷ bs)) (drop k (b ∷ bs)))) e
