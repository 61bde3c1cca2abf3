-- Refusals by their numbers, each with the values that it returns.
--   refused n vs   refusal n with the values vs
--   told_by row r  the answer r with its refusal by number, as row tells it
--   tested b f     passed, if b, or else the refusal f
--   and_then r s   the answer s, unless r is refused
--   text f         the number of f with the values behind it, one space between
use Rattle.std.specs.Prelude.{ℕ, Bool, cond, List, [], ◌∷◌, ◌++◌, Ok, Err, codes, decimal, Result}

pub record Refused : Type 0 where
  pub number : ℕ
  pub values : List ℕ

abbrev pub refused : ℕ → List ℕ → Refused
refused n vs = record { number = n; values = vs }

abbrev pub told_by : {A R : Type 0} → (R → Refused) → Result A R → Result A Refused
told_by row (Ok a) = Ok a
told_by row (Err f) = Err (row f)

abbrev pub tested : Bool → Refused → Result (Unit {0}) Refused
tested b f = cond b (Ok tt) (Err f)

abbrev pub and_then : {A : Type 0} → Result (Unit {0}) Refused → Result A Refused → Result A Refused
and_then (Ok u) r = r
and_then (Err f) r = Err f

abbrev pub spaced : ℕ → List ℕ → List ℕ
spaced n [] = decimal n
spaced n (v ∷ vs) = decimal n ++ (codes " " ++ spaced v vs)

abbrev pub text : Refused → List ℕ
text f = spaced f.number f.values
