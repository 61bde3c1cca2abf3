-- A text is written in one way only.
use Rattle.std.proofs.Common.{◌≡◌, ℕ, ◌≤◌, List, [], ◌∷◌, ◌++◌, length, sym, refl, ap, ◌∙◌, ap₂, append_assoc, append-nil, arith}
use Rattle.std.proofs.lemmas.List.{length_push, same_from_push}
use Rattle.reader.specs.declared.token.Kind.{Kind}
use Rattle.reader.specs.declared.token.Kind.TheVariants.{Close}
use Rattle.reader.specs.declared.reader.Sign.{Sign}
use Rattle.reader.specs.declared.reader.Sign.TheVariants as sign
use Rattle.reader.specs.Grammar.{Tree, Parts, leaf, list, two, more, sign_kind, tokens, all_tokens, Spelled, Written}
use Rattle.reader.proofs.Spelling.{cuts, past, token_kind}
use Rattle.reader.proofs.Complete.{head_of, rest_of, split, no_close}

same_spelled : (ks ls : List Kind) (bs : List ℕ) → Spelled bs ks → Spelled bs ls → ks ≡ ls
same_spelled [] [] bs s r = refl
same_spelled [] (l ∷ ls) bs s r = absurd (cc (cuts 0 s, (cuts 0 r).0))
same_spelled (k ∷ ks) [] bs s r = absurd (cc (cuts 0 r, (cuts 0 s).0))
same_spelled (k ∷ ks) (l ∷ ls) bs s r =
    let first : k ≡ l = token_kind k 0 (record { kind = l; place = 0 }) (sym (cuts 0 s).0 ∙ (cuts 0 r).0) in
    ap₂ (λ x xs. x ∷ xs) first (same_spelled ks ls (past bs) (cuts 0 s).1 (cuts 0 r).1)

-- the terms of a list as they come
abbrev members : Parts → List Tree
members (two a b) = a ∷ b ∷ []
members (more p c) = members p ++ c ∷ []

abbrev spell : List Tree → List Kind
spell [] = []
spell (t ∷ ts) = tokens t ++ spell ts

spell_push : (ts : List Tree) (c : Tree) → spell (ts ++ c ∷ []) ≡ spell ts ++ tokens c
spell_push [] c = append-nil (tokens c)
spell_push (t ∷ ts) c = ap (λ l. tokens t ++ l) (spell_push ts c) ∙ sym (append_assoc (tokens t) (spell ts) (tokens c))

all_are : (p : Parts) → all_tokens p ≡ spell (members p)
all_are (two a b) = ap (λ l. tokens a ++ l) (sym (append-nil (tokens b)))
all_are (more p c) = ap (λ l. l ++ tokens c) (all_are p) ∙ sym (spell_push (members p) c)

some_members : (p : Parts) → 2 ≤ length (members p)
some_members (two a b) = omega arith
some_members (more p c) = omega (arith, some_members p, length_push (members p) c)

members_inj : (p q : Parts) → members p ≡ members q → p ≡ q
members_inj (two a b) (two c d) e = let x : a ≡ c = cc in let y : b ≡ d = cc in ap₂ two x y
members_inj (two a b) (more q d) e = absurd (omega (arith, ap length e, some_members q, length_push (members q) d))
members_inj (more p c) (two a b) e = absurd (omega (arith, ap length e, some_members p, length_push (members p) c))
members_inj (more p c) (more q d) e = let s = same_from_push (members p) (members q) c d e in ap₂ more (members_inj p q s.0) s.1

abbrev Inj : Tree → Type 0
Inj t = (u : Tree) (xs ys : List Kind) → tokens t ++ xs ≡ tokens u ++ ys → (t ≡ u) × (xs ≡ ys)

abbrev AllInj : List Tree → Type 0
AllInj [] = Unit {0}
AllInj (t ∷ ts) = Inj t × AllInj ts

all_push : (ts : List Tree) (c : Tree) → AllInj ts → Inj c → AllInj (ts ++ c ∷ [])
all_push [] c h i = (i, tt)
all_push (t ∷ ts) c h i = (h.0, all_push ts c h.1 i)

never_close : (t : Tree) (xs ys zs : List Kind) → Close ∷ xs ≡ (tokens t ++ ys) ++ zs → ⊥
never_close t xs ys zs e =
    let begins : Close ∷ xs ≡ head_of t ∷ ((rest_of t ++ ys) ++ zs) = e ∙ ap (λ l. (l ++ ys) ++ zs) (split t) in
    cc (no_close t)

lists_inj : (cs bs : List Tree) → AllInj cs → (xs ys : List Kind) → spell cs ++ Close ∷ xs ≡ spell bs ++ Close ∷ ys → (cs ≡ bs) × (xs ≡ ys)
lists_inj [] [] h xs ys e = (refl, cc)
lists_inj [] (b ∷ bs) h xs ys e = absurd (never_close b xs (spell bs) (Close ∷ ys) e)
lists_inj (a ∷ cs) [] h xs ys e = absurd (never_close a ys (spell cs) (Close ∷ xs) (sym e))
lists_inj (a ∷ cs) (b ∷ bs) h xs ys e =
    let f = h.0 b (spell cs ++ Close ∷ xs) (spell bs ++ Close ∷ ys) (sym (append_assoc (tokens a) (spell cs) (Close ∷ xs)) ∙ e ∙ append_assoc (tokens b) (spell bs) (Close ∷ ys)) in
    let r = lists_inj cs bs h.1 xs ys f.1 in
    (ap₂ (λ x l. x ∷ l) f.0 r.0, r.1)

leaf_inj : (c : ℕ) → Inj (leaf c)
leaf_inj c (leaf d) xs ys e = let z : c ≡ d = cc in (ap leaf z, cc)
leaf_inj c (list s p) xs ys e = absurd (cc)

sign_inj : (s r : Sign) → sign_kind s ≡ sign_kind r → s ≡ r
sign_inj sign.Meet sign.Meet e = refl
sign_inj sign.Meet sign.Join e = absurd (cc)
sign_inj sign.Join sign.Meet e = absurd (cc)
sign_inj sign.Join sign.Join e = refl

list_inj : (s : Sign) (p : Parts) → AllInj (members p) → Inj (list s p)
list_inj s p h (leaf d) xs ys e = absurd (cc)
list_inj s p h (list r q) xs ys e =
    let k : sign_kind s ≡ sign_kind r = cc in
    let t : (all_tokens p ++ Close ∷ []) ++ xs ≡ (all_tokens q ++ Close ∷ []) ++ ys = cc in
    let l = lists_inj (members p) (members q) h xs ys
    (ap (λ m. m ++ Close ∷ xs) (sym (all_are p)) ∙ sym (append_assoc (all_tokens p) (Close ∷ []) xs) ∙ t ∙ append_assoc (all_tokens q) (Close ∷ []) ys ∙ ap (λ m. m ++ Close ∷ ys) (all_are q)) in
    (ap₂ list (sign_inj s r k) (members_inj p q l.0), l.1)

mutual
  tree_inj : (t : Tree) → Inj t
  tree_inj (leaf c) = leaf_inj c
  tree_inj (list s p) = list_inj s p (parts_inj p)

  parts_inj : (p : Parts) → AllInj (members p)
  parts_inj (two a b) = (tree_inj a, (tree_inj b, tt))
  parts_inj (more p c) = all_push (members p) c (parts_inj p) (tree_inj c)

pub one_tree : (text : List ℕ) (t u : Tree) → Written text t → Written text u → t ≡ u
one_tree text t u w v =
    let e = same_spelled (tokens t) (tokens u) text w.spelled v.spelled in
    (tree_inj t u [] [] (append-nil (tokens t) ∙ e ∙ sym (append-nil (tokens u)))).0
