-- What a written term is.
--   Tree           a variable, or a sign with two or more trees
--   term t         the lattice term that a tree stands for: a list is joined, or met, from the left
--   tokens t       the tokens of a tree, in order
--   depth t        how many brackets are open at most
--   Spelled bs ks  the bytes bs spell the tokens ks, with spaces anywhere but inside a token
--   Written bs t   the bytes bs are the written term t
--   Cuts           the law of the cutter: it takes the first token that the text spells, and leaves the others
use Rattle.std.specs.Prelude.{◌≡◌, ℕ, suc, ◌+◌, ◌-◌, ◌*◌, ◌≤◌, max, List, [], ◌∷◌, ◌++◌, Some, None, Ok, Option, Result}
use Rattle.free_lattice.specs.Terms.{Term, var, meet, join}
use Rattle.reader.specs.declared.token.Kind.{Kind}
use Rattle.reader.specs.declared.token.Kind.TheVariants.{Open, Close, Plus, Star, Variable}
use Rattle.reader.specs.declared.token.Token.{Token}
use Rattle.reader.specs.declared.reader.Sign.{Sign}
use Rattle.reader.specs.declared.reader.Sign.TheVariants as sign
use Rattle.reader.specs.Faults.{Row}

mutual
  pub data Tree : Type 0 where
    leaf : ℕ → Tree
    list : Sign → Parts → Tree

  pub data Parts : Type 0 where
    two : Tree → Tree → Parts
    more : Parts → Tree → Parts

abbrev pub combine : Sign → Term → Term → Term
combine sign.Meet a b = meet a b
combine sign.Join a b = join a b

abbrev mutual
  pub term : Tree → Term
  term (leaf c) = var c
  term (list s p) = folded p s

  pub folded : Parts → Sign → Term
  folded (two a b) s = combine s (term a) (term b)
  folded (more p c) s = combine s (folded p s) (term c)

abbrev pub sign_kind : Sign → Kind
sign_kind sign.Meet = Star
sign_kind sign.Join = Plus

abbrev mutual
  pub tokens : Tree → List Kind
  tokens (leaf c) = Variable c ∷ []
  tokens (list s p) = Open ∷ sign_kind s ∷ (all_tokens p ++ Close ∷ [])

  pub all_tokens : Parts → List Kind
  all_tokens (two a b) = tokens a ++ tokens b
  all_tokens (more p c) = all_tokens p ++ tokens c

abbrev mutual
  pub depth : Tree → ℕ
  depth (leaf c) = 0
  depth (list s p) = suc (depths p)

  pub depths : Parts → ℕ
  depths (two a b) = max (depth a) (depth b)
  depths (more p c) = max (depths p) (depth c)

abbrev pub Between : ℕ → ℕ → ℕ → Type 0
Between low high b = (low ≤ b) × (b ≤ high)

-- the bytes a to z, 0 to 9 and 1 to 9
abbrev pub Letter : ℕ → Type 0
Letter = Between 97 122

abbrev pub Digit : ℕ → Type 0
Digit = Between 48 57

abbrev pub Leading : ℕ → Type 0
Leading = Between 49 57

-- no digit begins a token, so a variable has all the digits behind its letter
pub data Spelled : List ℕ → List Kind → Type 0 where
  end : Spelled [] []
  space : {bs : List ℕ} {ks : List Kind} → Spelled bs ks → Spelled (32 ∷ bs) ks
  opened : {bs : List ℕ} {ks : List Kind} → Spelled bs ks → Spelled (40 ∷ bs) (Open ∷ ks)
  closed : {bs : List ℕ} {ks : List Kind} → Spelled bs ks → Spelled (41 ∷ bs) (Close ∷ ks)
  star : {bs : List ℕ} {ks : List Kind} → Spelled bs ks → Spelled (42 ∷ bs) (Star ∷ ks)
  plus : {bs : List ℕ} {ks : List Kind} → Spelled bs ks → Spelled (43 ∷ bs) (Plus ∷ ks)
  letter : {l : ℕ} {bs : List ℕ} {ks : List Kind} → Letter l → Spelled bs ks → Spelled (l ∷ bs) (Variable (101 * (l - 97)) ∷ ks)
  digit : {l d : ℕ} {bs : List ℕ} {ks : List Kind} → Letter l → Digit d → Spelled bs ks → Spelled (l ∷ d ∷ bs) (Variable (101 * (l - 97) + (d - 48) + 1) ∷ ks)
  digits : {l t d : ℕ} {bs : List ℕ} {ks : List Kind} → Letter l → Leading t → Digit d → Spelled bs ks → Spelled (l ∷ t ∷ d ∷ bs) (Variable (101 * (l - 97) + (10 * (t - 48) + (d - 48)) + 1) ∷ ks)

pub record Written (text : List ℕ) (t : Tree) : Type 0 where
  pub spelled : Spelled text (tokens t)
  pub shallow : depth t ≤ 16

-- `before` is unread, then the answer r comes, and then `after` is unread
pub record Cuts (before : List ℕ) (r : Result (Option Token) Row) (after : List ℕ) : Type 0 where
  pub none : r ≡ Ok None → Spelled before []
  pub some : (t : Token) → r ≡ Ok (Some t) → (ks : List Kind) → Spelled after ks → Spelled before (t.kind ∷ ks)
  pub spelled_none : Spelled before [] → r ≡ Ok None
  pub spelled_some : (k : Kind) (ks : List Kind) → Spelled before (k ∷ ks) → ((p : ℕ) × (r ≡ Ok (Some (record { kind = k; place = p })))) × Spelled after ks
