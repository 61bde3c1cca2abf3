-- Lattice terms: variables by their codes, and meets and joins of two terms.
--   subterms t   the parts of t down to its variables, and then t itself
--   letters t    how many times a variable stands in t
use Rattle.std.specs.Prelude.{List, [], ◌∷◌, ◌++◌, ℕ, ◌+◌}

pub data Term : Type 0 where
  var : ℕ → Term
  meet join : Term → Term → Term

-- each part stands behind its own parts, and the left part comes first
abbrev pub subterms : Term → List Term
subterms (var c) = var c ∷ []
subterms (meet a b) = subterms a ++ (subterms b ++ meet a b ∷ [])
subterms (join a b) = subterms a ++ (subterms b ++ join a b ∷ [])

abbrev pub letters : Term → ℕ
letters (var c) = 1
letters (meet a b) = letters a + letters b
letters (join a b) = letters a + letters b
