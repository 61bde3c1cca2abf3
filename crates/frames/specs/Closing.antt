-- What closing a draft computes.
--   closure n w   the order that the lines w make of the numbers below n
--   amiss n w     why the order w is no lattice of the numbers below n
--   closing D     the frame of the draft D, or the draft as it was with the refusal
use Rattle.std.specs.Prelude.{ℕ, zero, suc, Bool, true, false, cond, not, ◌&&◌, ◌||◌, is_some, Some, None, Ok, Err, Option, Result, ◌==◌, nat_lt}
use Rattle.refused.specs.Refused.{Refused}
use Rattle.frames.specs.declared.refusal.Refusal.{Refusal}
use Rattle.frames.specs.declared.refusal.Refusal.TheVariants.{Cycle, NoJoin, NoMeet}
use Rattle.frames.specs.Tests.{first_pair, word, rising}
use Rattle.frames.specs.Order.{le, bound}
use Rattle.frames.specs.Refused.{row}
use Rattle.frames.specs.Drafts.{Drafted, Framed}

-- two elements that a line joins, or an element with itself
abbrev pub begun : ℕ → ℕ → ℕ → ℕ → Bool
begun n w a b = nat_lt a n && (nat_lt b n && (a == b || le w false a b))

-- a is below b, or is so by way of k
abbrev pub linked : ℕ → ℕ → ℕ → ℕ → Bool
linked w k a b = le w false a b || (le w false a k && le w false k b)

-- the order w with what goes by way of numbers below k
unfoldable pub chained : ℕ → ℕ → ℕ
chained zero w = w
chained (suc k) w = word (linked (chained k w) k)

unfoldable pub closure : ℕ → ℕ → ℕ
closure n w = chained n (word (begun n w))

-- a and b are below each other
abbrev pub cyclic : ℕ → ℕ → ℕ → Bool
cyclic w a b = le w false a b && le w false b a

-- a and b lack a join or a meet
abbrev pub gap : ℕ → ℕ → ℕ → ℕ → Bool
gap n w a b = not (is_some (bound n w true a b) && is_some (bound n w false a b))

-- the refusal of such a pair: it has no join, or else no meet
abbrev pub lacking : ℕ → ℕ → ℕ × ℕ → Refusal
lacking n w p = cond (is_some (bound n w true p.0 p.1)) (NoMeet p.0 p.1) (NoJoin p.0 p.1)

abbrev pub amiss_by : ℕ → ℕ → Option (ℕ × ℕ) → Option (ℕ × ℕ) → Option Refusal
amiss_by n w (Some p) o = Some (Cycle p.0 p.1)
amiss_by n w None (Some p) = Some (lacking n w p)
amiss_by n w None None = None

unfoldable pub amiss : ℕ → ℕ → Option Refusal
amiss n w = amiss_by n w (first_pair (rising n (cyclic w))) (first_pair (rising n (gap n w)))

abbrev pub closing_by : Drafted → ℕ → Option Refusal → Result Framed (Drafted × Refused)
closing_by D w None = Ok (record { size = D.size; order = w })
closing_by D w (Some f) = Err (D, row f)

abbrev pub closing : Drafted → Result Framed (Drafted × Refused)
closing D = let w = closure D.size D.lines in closing_by D w (amiss D.size w)
