-- What the words of `try` ask for.
--   site_of ws   the lattice that the words begin with, and the words behind it
--   trial_of ws    the trial that the words ask for
use Rattle.std.specs.Prelude.{ℕ, ◌^◌, cond, List, [], ◌∷◌, Some, None, codes, Option, nat_lt}
use Rattle.std.specs.Borrow.{Bor}
use Rattle.std.specs.Str.{bytes_eq}
use Rattle.text.specs.Words.{words_of, numeral}
use Rattle.command.specs.declared.trial.Site.{Site}
use Rattle.command.specs.declared.trial.Site.TheVariants.{Sets, Divisors, Frame}
use Rattle.command.specs.declared.trial.Trial.{Trial}

-- a trial of the nodes u and v, with the words that tell its slots
pub record Asked : Type 0 where
  pub site : Site
  pub u : ℕ
  pub v : ℕ
  pub slots : List (List ℕ)

abbrev pub trial_asked : Trial → Asked
trial_asked t = record { site = t.site; u = t.u; v = t.v; slots = words_of t.slots.now }

abbrev pub sited : Site × Bor (List ℕ) → Site × List (List ℕ)
sited p = (p.0, words_of p.1.now)

-- the divisors of a number that has at most 32 bits
abbrev pub divisors_of : Option ℕ → List (List ℕ) → Option (Site × List (List ℕ))
divisors_of None ws = None
divisors_of (Some d) ws = cond (nat_lt d (2 ^ 32)) (Some (Divisors d, ws)) None

abbrev pub numbered_site : List (List ℕ) → Option (Site × List (List ℕ))
numbered_site [] = None
numbered_site (w ∷ ws) = divisors_of (numeral w) ws

abbrev pub site_of : List (List ℕ) → Option (Site × List (List ℕ))
site_of [] = None
site_of (w ∷ ws) =
    cond (bytes_eq w (codes "sets")) (Some (Sets, ws))
    (cond (bytes_eq w (codes "divisors")) (numbered_site ws)
    (cond (bytes_eq w (codes "frame")) (Some (Frame, ws))
    None))

abbrev pub of_nodes : Site → Option ℕ → Option ℕ → List (List ℕ) → Option Asked
of_nodes g None v ws = None
of_nodes g (Some u) None ws = None
of_nodes g (Some u) (Some v) ws = Some (record { site = g; u = u; v = v; slots = ws })

abbrev pub trial_on : Site → List (List ℕ) → Option Asked
trial_on g [] = None
trial_on g (u ∷ []) = None
trial_on g (u ∷ v ∷ ws) = of_nodes g (numeral u) (numeral v) ws

abbrev pub trial_by : Option (Site × List (List ℕ)) → Option Asked
trial_by None = None
trial_by (Some p) = trial_on p.0 p.1

abbrev pub trial_of : List (List ℕ) → Option Asked
trial_of ws = trial_by (site_of ws)
