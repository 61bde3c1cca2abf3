-- What the cutter cuts is what the text spells.
use Rattle.std.proofs.Common.{◌≡◌, ℕ, zero, suc, ◌+◌, ◌-◌, ◌*◌, Bool, true, false, cond, eqb, List, [], ◌∷◌, take, drop, Some, None, Ok, Option, Result, sym, refl, ap, ◌∙◌, subst, subst₂, ⊎_elim, suc-add, zero-add, one-add, arith, eqb-true}
use Rattle.std.specs.Char.{is_ascii_digit, is_ascii_lowercase}
use Rattle.std.specs.Int.{is_in_range}
use Rattle.std.specs.List.{prefix_len}
use Rattle.std.proofs.lemmas.List.{drop-drop}
use Rattle.std.proofs.lemmas.Bool.{cases_Bool}
use Rattle.std.proofs.lemmas.Bool.Decides.{nat_tests}
use Rattle.reader.specs.declared.token.Kind.{Kind}
use Rattle.reader.specs.declared.token.Kind.TheVariants.{Open, Close, Plus, Star, Variable}
use Rattle.reader.specs.declared.token.Token.{Token}
use Rattle.reader.specs.Faults.{Row}
use Rattle.reader.specs.Cutting.{blank, blanks, number, sign, token_at, variable, size, judge, piece, cut, behind}
use Rattle.reader.specs.Grammar.{Between, Letter, Spelled, end, space, opened, closed, star, plus, letter, digit, digits, Cuts}

between : (lo hi c : ℕ) → is_in_range lo hi c ≡ true → Between lo hi c
between lo hi c h = (grind (arith, nat_tests), grind (arith, nat_tests))

is_within : (lo hi c : ℕ) → Between lo hi c → is_in_range lo hi c ≡ true
is_within lo hi c h = grind (arith, nat_tests, h.0, h.1)

no_blank : (b : ℕ) → is_ascii_lowercase b ≡ true → blank b ≡ false
no_blank b h = grind (arith, nat_tests)

no_number : (b : ℕ) → Letter b → is_ascii_digit b ≡ false
no_number b h = grind (arith, nat_tests, h.0)

abbrev pub cut_at : ℕ → List ℕ → Result (Option Token) Row
cut_at p rest = judge p (piece (drop (blanks rest) rest))

abbrev pub past : List ℕ → List ℕ
past rest = drop (blanks rest + size (drop (blanks rest) rest)) rest

abbrev count : List ℕ → ℕ
count = prefix_len is_ascii_digit

-- the front of the text is a space, a letter or something else
module _ (p b : ℕ) (rest : List ℕ) where
  blank_cut : blank b ≡ true → cut_at p (b ∷ rest) ≡ cut_at p rest
  blank_cut e = ap (λ x. judge p (piece (drop (cond x (1 + blanks rest) 0) (b ∷ rest)))) e ∙ ap (λ n. judge p (piece (drop n (b ∷ rest)))) (one-add (blanks rest))

  blank_past : blank b ≡ true → past (b ∷ rest) ≡ past rest
  blank_past e =
      ap (λ x. drop (cond x (1 + blanks rest) 0 + size (drop (cond x (1 + blanks rest) 0) (b ∷ rest))) (b ∷ rest)) e
      ∙ ap (λ n. drop (n + size (drop n (b ∷ rest))) (b ∷ rest)) (one-add (blanks rest))
      ∙ ap (λ n. drop n (b ∷ rest)) (suc-add (blanks rest) (size (drop (blanks rest) rest)))

  front_cut : blank b ≡ false → cut_at p (b ∷ rest) ≡ judge p (piece (b ∷ rest))
  front_cut e = ap (λ x. judge p (piece (drop (cond x (1 + blanks rest) 0) (b ∷ rest)))) e

  front_past : blank b ≡ false → past (b ∷ rest) ≡ drop (size (b ∷ rest)) (b ∷ rest)
  front_past e =
      ap (λ x. drop (cond x (1 + blanks rest) 0 + size (drop (cond x (1 + blanks rest) 0) (b ∷ rest))) (b ∷ rest)) e
      ∙ ap (λ n. drop n (b ∷ rest)) (zero-add (size (b ∷ rest)))

more_size : (x : Bool) (n : ℕ) → cond x (2 + n) 1 ≡ suc (cond x (1 + n) 0)
more_size true n = omega arith
more_size false n = refl

letter_size : (b : ℕ) (rest : List ℕ) → is_ascii_lowercase b ≡ true → size (b ∷ rest) ≡ suc (count rest)
letter_size b [] e = refl
letter_size b (c ∷ cs) e = ap (λ x. cond x (cond (is_ascii_digit c) (2 + count cs) 1) 1) e ∙ more_size (is_ascii_digit c) (count cs)

other_size : (b : ℕ) (rest : List ℕ) → is_ascii_lowercase b ≡ false → size (b ∷ rest) ≡ 1
other_size b [] e = refl
other_size b (c ∷ cs) e = ap (λ x. cond x (cond (is_ascii_digit c) (2 + count cs) 1) 1) e

module _ (p b : ℕ) (rest : List ℕ) where
  letter_cut : is_ascii_lowercase b ≡ true → cut_at p (b ∷ rest) ≡ token_at p 2 (variable b (number (take (count rest) rest)))
  letter_cut e =
      front_cut p b rest (no_blank b e) ∙ ap (λ n. judge p (take n (b ∷ rest))) (letter_size b rest e)
      ∙ ap (λ x. cond x (token_at p 2 (variable b (number (take (count rest) rest)))) (token_at p 1 (sign b))) e

  letter_past : is_ascii_lowercase b ≡ true → past (b ∷ rest) ≡ drop (count rest) rest
  letter_past e = front_past p b rest (no_blank b e) ∙ ap (λ n. drop n (b ∷ rest)) (letter_size b rest e)

  other_cut : blank b ≡ false → is_ascii_lowercase b ≡ false → cut_at p (b ∷ rest) ≡ token_at p 1 (sign b)
  other_cut h e =
      front_cut p b rest h ∙ ap (λ n. judge p (take n (b ∷ rest))) (other_size b rest e)
      ∙ ap (λ x. cond x (token_at p 2 (variable b (number []))) (token_at p 1 (sign b))) e

  other_past : blank b ≡ false → is_ascii_lowercase b ≡ false → past (b ∷ rest) ≡ rest
  other_past h e = front_past p b rest h ∙ ap (λ n. drop n (b ∷ rest)) (other_size b rest e)

-- a text that spells something begins with no digit
no_digit : {bs : List ℕ} {ks : List Kind} → Spelled bs ks → count bs ≡ 0
no_digit end = refl
no_digit (space s) = refl
no_digit (opened s) = refl
no_digit (closed s) = refl
no_digit (star s) = refl
no_digit (plus s) = refl
no_digit (letter {l = l} {bs = bs} h s) = ap (λ x. cond x (1 + count bs) 0) (no_number l h)
no_digit (digit {l = l} {d = d} {bs = bs} h i s) = ap (λ x. cond x (1 + count (d ∷ bs)) 0) (no_number l h)
no_digit (digits {l = l} {t = t} {d = d} {bs = bs} h i j s) = ap (λ x. cond x (1 + count (t ∷ d ∷ bs)) 0) (no_number l h)

-- what is cut where the tokens ks are spelled
abbrev pub Cut : ℕ → Result (Option Token) Row → List ℕ → List Kind → Type 0
Cut p r rest [] = r ≡ Ok None
Cut p r rest (k ∷ ks) = (r ≡ Ok (Some (record { kind = k; place = p }))) × Spelled rest ks

pub cuts : (p : ℕ) {bs : List ℕ} {ks : List Kind} → Spelled bs ks → Cut p (cut_at p bs) (past bs) ks
cuts p end = refl
cuts p (space {bs = bs} {ks = ks} s) = subst₂ (λ r l. Cut p r l ks) (sym (blank_cut p 32 bs refl)) (sym (blank_past p 32 bs refl)) (cuts p s)
cuts p (opened {bs = bs} {ks = ks} s) = (other_cut p 40 bs refl refl, subst (λ l. Spelled l ks) (sym (other_past p 40 bs refl refl)) s)
cuts p (closed {bs = bs} {ks = ks} s) = (other_cut p 41 bs refl refl, subst (λ l. Spelled l ks) (sym (other_past p 41 bs refl refl)) s)
cuts p (star {bs = bs} {ks = ks} s) = (other_cut p 42 bs refl refl, subst (λ l. Spelled l ks) (sym (other_past p 42 bs refl refl)) s)
cuts p (plus {bs = bs} {ks = ks} s) = (other_cut p 43 bs refl refl, subst (λ l. Spelled l ks) (sym (other_past p 43 bs refl refl)) s)
cuts p (letter {l = l} {bs = bs} {ks = ks} h s) =
    let low : is_ascii_lowercase l ≡ true = is_within 97 122 l h in
    let none = no_digit s in
    let code : (l - 97) * 101 + 0 ≡ 101 * (l - 97) = omega arith in (
      letter_cut p l bs low ∙ ap (λ n. token_at p 2 (variable l (number (take n bs)))) none ∙ ap (λ c. token_at p 2 (Some (Variable c))) code,
      subst (λ x. Spelled x ks) (sym (letter_past p l bs low ∙ ap (λ n. drop n bs) none)) s,
    )
cuts p (digit {l = l} {d = d} {bs = bs} {ks = ks} h i s) =
    let low : is_ascii_lowercase l ≡ true = is_within 97 122 l h in
    let dig : is_ascii_digit d ≡ true = is_within 48 57 d i in
    let one : count (d ∷ bs) ≡ 1 = ap (λ x. cond x (1 + count bs) 0) dig ∙ ap (λ n. 1 + n) (no_digit s) in
    let code : (l - 97) * 101 + (d - 48 + 1) ≡ 101 * (l - 97) + (d - 48) + 1 = omega arith in (
      letter_cut p l (d ∷ bs) low ∙ ap (λ n. token_at p 2 (variable l (number (take n (d ∷ bs))))) one
          ∙ ap (λ x. token_at p 2 (variable l (cond x (Some (d - 48 + 1)) None))) dig ∙ ap (λ c. token_at p 2 (Some (Variable c))) code,
      subst (λ x. Spelled x ks) (sym (letter_past p l (d ∷ bs) low ∙ ap (λ n. drop n (d ∷ bs)) one)) s,
    )
cuts p (digits {l = l} {t = t} {d = d} {bs = bs} {ks = ks} h i j s) =
    let low : is_ascii_lowercase l ≡ true = is_within 97 122 l h in
    let tens : is_in_range 49 57 t ≡ true = is_within 49 57 t i in
    let ten : is_ascii_digit t ≡ true = is_within 48 57 t (omega (arith, i.0), i.1) in
    let dig : is_ascii_digit d ≡ true = is_within 48 57 d j in
    let one : count (d ∷ bs) ≡ 1 = ap (λ x. cond x (1 + count bs) 0) dig ∙ ap (λ n. 1 + n) (no_digit s) in
    let two : count (t ∷ d ∷ bs) ≡ 2 = ap (λ x. cond x (1 + count (d ∷ bs)) 0) ten ∙ ap (λ n. 1 + n) one in
    let code : (l - 97) * 101 + ((t - 48) * 10 + (d - 48) + 1) ≡ 101 * (l - 97) + (10 * (t - 48) + (d - 48)) + 1 = omega arith in (
      letter_cut p l (t ∷ d ∷ bs) low ∙ ap (λ n. token_at p 2 (variable l (number (take n (t ∷ d ∷ bs))))) two
          ∙ ap (λ x. token_at p 2 (variable l (cond x (cond (is_ascii_digit d) (Some ((t - 48) * 10 + (d - 48) + 1)) None) None))) tens
          ∙ ap (λ x. token_at p 2 (variable l (cond x (Some ((t - 48) * 10 + (d - 48) + 1)) None))) dig
          ∙ ap (λ c. token_at p 2 (Some (Variable c))) code,
      subst (λ x. Spelled x ks) (sym (letter_past p l (t ∷ d ∷ bs) low ∙ ap (λ n. drop n (t ∷ d ∷ bs)) two)) s,
    )

-- and the other way round
pub token_kind : (k : Kind) (p : ℕ) (t : Token) → ◌≡◌ {A = Result (Option Token) Row} (Ok (Some (record { kind = k; place = p }))) (Ok (Some t)) → k ≡ t.kind
token_kind k p t h = cc

never_none : (p : ℕ) (why : ℕ) (o : Option Kind) → token_at p why o ≡ Ok None → ⊥
never_none p why None h = cc
never_none p why (Some k) h = cc

module _ (p b : ℕ) (t : Token) (ks : List Kind) where
  sign_spelled : (bs : List ℕ) (x₁ x₂ x₃ x₄ : Bool) → eqb b 40 ≡ x₁ → eqb b 41 ≡ x₂ → eqb b 43 ≡ x₃ → eqb b 42 ≡ x₄
      → token_at p 1 (cond x₁ (Some Open) (cond x₂ (Some Close) (cond x₃ (Some Plus) (cond x₄ (Some Star) None)))) ≡ Ok (Some t)
      → Spelled bs ks → Spelled (b ∷ bs) (t.kind ∷ ks)
  sign_spelled bs true x₂ x₃ x₄ e₁ e₂ e₃ e₄ h s = subst₂ (λ x k. Spelled (x ∷ bs) (k ∷ ks)) (sym (eqb-true b 40 e₁)) (token_kind Open p t h) (opened s)
  sign_spelled bs false true x₃ x₄ e₁ e₂ e₃ e₄ h s = subst₂ (λ x k. Spelled (x ∷ bs) (k ∷ ks)) (sym (eqb-true b 41 e₂)) (token_kind Close p t h) (closed s)
  sign_spelled bs false false true x₄ e₁ e₂ e₃ e₄ h s = subst₂ (λ x k. Spelled (x ∷ bs) (k ∷ ks)) (sym (eqb-true b 43 e₃)) (token_kind Plus p t h) (plus s)
  sign_spelled bs false false false true e₁ e₂ e₃ e₄ h s = subst₂ (λ x k. Spelled (x ∷ bs) (k ∷ ks)) (sym (eqb-true b 42 e₄)) (token_kind Star p t h) (star s)
  sign_spelled bs false false false false e₁ e₂ e₃ e₄ h s = absurd (cc)

  module _ (low : is_ascii_lowercase b ≡ true) where
    one_digit : (c : ℕ) (cs : List ℕ) (x : Bool) → is_ascii_digit c ≡ x → token_at p 2 (variable b (cond x (Some (c - 48 + 1)) None)) ≡ Ok (Some t) → Spelled cs ks → Spelled (b ∷ c ∷ cs) (t.kind ∷ ks)
    one_digit c cs true e h s =
        let code : 101 * (b - 97) + (c - 48) + 1 ≡ (b - 97) * 101 + (c - 48 + 1) = omega arith in
        subst (λ k. Spelled (b ∷ c ∷ cs) (k ∷ ks)) (ap (λ n. Variable n) code ∙ token_kind _ p t h) (digit (between 97 122 b low) (between 48 57 c e) s)
    one_digit c cs false e h s = absurd (cc)

    two_digits : (c d : ℕ) (cs : List ℕ) (x y : Bool) → is_in_range 49 57 c ≡ x → is_ascii_digit d ≡ y
        → token_at p 2 (variable b (cond x (cond y (Some ((c - 48) * 10 + (d - 48) + 1)) None) None)) ≡ Ok (Some t) → Spelled cs ks → Spelled (b ∷ c ∷ d ∷ cs) (t.kind ∷ ks)
    two_digits c d cs true true e f h s =
        let code : 101 * (b - 97) + (10 * (c - 48) + (d - 48)) + 1 ≡ (b - 97) * 101 + ((c - 48) * 10 + (d - 48) + 1) = omega arith in
        subst (λ k. Spelled (b ∷ c ∷ d ∷ cs) (k ∷ ks)) (ap (λ n. Variable n) code ∙ token_kind _ p t h) (digits (between 97 122 b low) (between 49 57 c e) (between 48 57 d f) s)
    two_digits c d cs true false e f h s = absurd (cc)
    two_digits c d cs false y e f h s = absurd (cc)

    letter_spelled : (n : ℕ) (bs : List ℕ) → token_at p 2 (variable b (number (take n bs))) ≡ Ok (Some t) → Spelled (drop n bs) ks → Spelled (b ∷ bs) (t.kind ∷ ks)
    letter_spelled zero bs h s =
        let code : 101 * (b - 97) ≡ (b - 97) * 101 + 0 = omega arith in
        subst (λ k. Spelled (b ∷ bs) (k ∷ ks)) (ap (λ n. Variable n) code ∙ token_kind _ p t h) (letter (between 97 122 b low) s)
    letter_spelled (suc n) [] h s =
        let code : 101 * (b - 97) ≡ (b - 97) * 101 + 0 = omega arith in
        subst (λ k. Spelled (b ∷ []) (k ∷ ks)) (ap (λ n. Variable n) code ∙ token_kind _ p t h) (letter (between 97 122 b low) s)
    letter_spelled (suc zero) (c ∷ cs) h s = one_digit c cs (is_ascii_digit c) refl h s
    letter_spelled (suc (suc n)) (c ∷ []) h s = one_digit c [] (is_ascii_digit c) refl h s
    letter_spelled (suc (suc zero)) (c ∷ d ∷ cs) h s = two_digits c d cs (is_in_range 49 57 c) (is_ascii_digit d) refl refl h s
    letter_spelled (suc (suc (suc n))) (c ∷ d ∷ []) h s = two_digits c d [] (is_in_range 49 57 c) (is_ascii_digit d) refl refl h s
    letter_spelled (suc (suc (suc n))) (c ∷ d ∷ e ∷ es) h s = absurd (cc)

module _ (p : ℕ) (t : Token) (ks : List Kind) where
  pub spelled_some : (bs : List ℕ) → cut_at p bs ≡ Ok (Some t) → Spelled (past bs) ks → Spelled bs (t.kind ∷ ks)
  spelled_some [] h s = absurd (cc)
  spelled_some (b ∷ bs) h s =
      ⊎_elim
      (λ e. subst (λ x. Spelled (x ∷ bs) (t.kind ∷ ks)) (sym (eqb-true b 32 e)) (space (spelled_some bs (sym (blank_cut p b bs e) ∙ h) (subst (λ l. Spelled l ks) (blank_past p b bs e) s))))
      (λ e. ⊎_elim
      (λ low. letter_spelled p b t ks low (count bs) bs (sym (letter_cut p b bs low) ∙ h) (subst (λ l. Spelled l ks) (letter_past p b bs low) s))
      (λ other. sign_spelled p b t ks bs (eqb b 40) (eqb b 41) (eqb b 43) (eqb b 42) refl refl refl refl (sym (other_cut p b bs e other) ∙ h) (subst (λ l. Spelled l ks) (other_past p b bs e other) s))
      (cases_Bool (is_ascii_lowercase b)))
      (cases_Bool (blank b))

pub spelled_none : (p : ℕ) (bs : List ℕ) → cut_at p bs ≡ Ok None → Spelled bs []
spelled_none p [] h = end
spelled_none p (b ∷ bs) h =
    ⊎_elim
    (λ e. subst (λ x. Spelled (x ∷ bs) []) (sym (eqb-true b 32 e)) (space (spelled_none p bs (sym (blank_cut p b bs e) ∙ h))))
    (λ e. ⊎_elim
    (λ low. absurd (never_none p 2 _ (sym (letter_cut p b bs low) ∙ h)))
    (λ other. absurd (never_none p 1 _ (sym (other_cut p b bs e other) ∙ h)))
    (cases_Bool (is_ascii_lowercase b)))
    (cases_Bool (blank b))

-- the same from a place in a text
module _ (text : List ℕ) (at : ℕ) where
  past_is : drop (behind at (drop at text)) text ≡ past (drop at text)
  past_is =
      let rest : List ℕ = drop at text in
      let sum : at + blanks rest + size (drop (blanks rest) rest) ≡ at + (blanks rest + size (drop (blanks rest) rest)) = omega arith in
      ap (λ n. drop n text) sum ∙ sym (drop-drop (blanks rest + size (drop (blanks rest) rest)) at text)

  pub next_cut : (ks : List Kind) → Spelled (drop at text) ks → Cut (at + blanks (drop at text)) (cut at (drop at text)) (drop (behind at (drop at text)) text) ks
  next_cut ks s = subst (λ l. Cut (at + blanks (drop at text)) (cut at (drop at text)) l ks) (sym past_is) (cuts (at + blanks (drop at text)) s)

  pub next_some : (t : Token) (ks : List Kind) → cut at (drop at text) ≡ Ok (Some t) → Spelled (drop (behind at (drop at text)) text) ks → Spelled (drop at text) (t.kind ∷ ks)
  next_some t ks h s = spelled_some (at + blanks (drop at text)) t ks (drop at text) h (subst (λ l. Spelled l ks) past_is s)

  pub next_none : cut at (drop at text) ≡ Ok None → Spelled (drop at text) []
  next_none h = spelled_none (at + blanks (drop at text)) (drop at text) h

  pub cuts_law : Cuts (drop at text) (cut at (drop at text)) (drop (behind at (drop at text)) text)
  cuts_law =
      record {
        none = next_none;
        some = λ t h ks s. next_some t ks h s;
        spelled_none = λ s. next_cut [] s;
        spelled_some = λ k ks s. let c = next_cut (k ∷ ks) s in ((at + blanks (drop at text), c.0), c.1);
      }
