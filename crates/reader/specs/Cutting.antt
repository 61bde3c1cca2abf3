-- How a text is cut into tokens.
--   blanks bs      how many spaces stand at the front
--   size bs        how many bytes the token at the front takes: a letter with all digits behind it, or one byte
--   judge p bs     the token that the bytes bs are, or the fault at p
--   cut at bs      the next token, where bs is unread from the offset `at` on
--   behind at bs   the offset behind that token
use Rattle.std.specs.Prelude.{ℕ, ◌+◌, ◌-◌, ◌*◌, Bool, cond, List, [], ◌∷◌, take, drop, Some, None, Ok, Err, Option, Result, ◌==◌}
use Rattle.std.specs.Char.{is_ascii_digit, is_ascii_lowercase}
use Rattle.std.specs.Int.{is_in_range}
use Rattle.std.specs.List.{prefix_len}
use Rattle.reader.specs.declared.token.Kind.{Kind}
use Rattle.reader.specs.declared.token.Kind.TheVariants.{Open, Close, Plus, Star, Variable}
use Rattle.reader.specs.declared.token.Token.{Token}
use Rattle.reader.specs.Faults.{Row, by_cutter}

-- a space is byte 32 and no other
abbrev pub blank : ℕ → Bool
blank b = b == 32

abbrev pub blanks : List ℕ → ℕ
blanks = prefix_len blank

abbrev pub size : List ℕ → ℕ
size [] = 0
size (b ∷ []) = 1
size (b ∷ c ∷ bs) = cond (is_ascii_lowercase b) (cond (is_ascii_digit c) (2 + prefix_len is_ascii_digit bs) 1) 1

-- what the digits behind a letter add to its code: nothing, or the number and 1. Needless zeros and long numbers have none
abbrev pub number : List ℕ → Option ℕ
number [] = Some 0
number (d ∷ []) = cond (is_ascii_digit d) (Some (d - 48 + 1)) None
number (t ∷ d ∷ []) = cond (is_in_range 49 57 t) (cond (is_ascii_digit d) (Some ((t - 48) * 10 + (d - 48) + 1)) None) None
number (t ∷ d ∷ e ∷ ds) = None

abbrev pub variable : ℕ → Option ℕ → Option Kind
variable b None = None
variable b (Some n) = Some (Variable ((b - 97) * 101 + n))

abbrev pub sign : ℕ → Option Kind
sign b = cond (b == 40) (Some Open) (cond (b == 41) (Some Close) (cond (b == 43) (Some Plus) (cond (b == 42) (Some Star) None)))

-- a token at p, or fault n there
abbrev pub token_at : ℕ → ℕ → Option Kind → Result (Option Token) Row
token_at p n None = Err (by_cutter n p)
token_at p n (Some k) = Ok (Some (record { kind = k; place = p }))

abbrev pub judge : ℕ → List ℕ → Result (Option Token) Row
judge p [] = Ok None
judge p (b ∷ ds) = cond (is_ascii_lowercase b) (token_at p 2 (variable b (number ds))) (token_at p 1 (sign b))

abbrev pub piece : List ℕ → List ℕ
piece bs = take (size bs) bs

abbrev pub cut : ℕ → List ℕ → Result (Option Token) Row
cut at bs = judge (at + blanks bs) (piece (drop (blanks bs) bs))

abbrev pub behind : ℕ → List ℕ → ℕ
behind at bs = at + blanks bs + size (drop (blanks bs) bs)
