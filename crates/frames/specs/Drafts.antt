-- What a draft and a frame are to their callers, and what beginning a draft and drawing a line do.
use Rattle.std.specs.Prelude.{ℕ, ◌+◌, ◌*◌, ◌^◌, cond, ◌&&◌, [], Ok, Err, Result, bit_or, nat_le, nat_lt}
use Rattle.refused.specs.Refused.{Refused, refused}

-- the elements are the numbers below size, and the bit of lines worth 2^(8a + b) says that there is a line from a up to b
pub record Drafted : Type 0 where
  pub size : ℕ
  pub lines : ℕ

-- the elements are the numbers below size, and the bit of order worth 2^(8a + b) says that a is below b
pub record Framed : Type 0 where
  pub size : ℕ
  pub order : ℕ

-- a draft of n elements with no lines, for n from 1 to 8
abbrev pub beginning : ℕ → Result Drafted Refused
beginning n = cond (nat_lt 0 n && nat_le n 8) (Ok (record { size = n; lines = 0 })) (Err (refused 12 []))

-- the draft after a was put below b, and the answer
abbrev pub lining : Drafted → ℕ → ℕ → Drafted × Result (Unit {0}) Refused
lining D a b =
    cond (nat_lt a D.size && nat_lt b D.size)
    (record { size = D.size; lines = bit_or D.lines (2 ^ (8 * a + b)) }, Ok tt)
    (D, Err (refused 13 []))
