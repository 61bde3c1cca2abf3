-- What a command does to a desk, and what it is answered.
--   Desked             a desk to its callers: its sheet, and a draft and a frame if there are any
--   Outcome            a desk afterwards, with the reply
--   step D c           the outcome of the call c on the desk D
use Rattle.std.specs.Prelude.{ℕ, max, List, Some, None, Ok, Err, Option, Result}
use Rattle.refused.specs.Refused.{Refused}
use Rattle.sheet.specs.declared.node.Node.{Node}
use Rattle.sheet.specs.State.{State, blank}
use Rattle.sheet.specs.Enter as enter
use Rattle.reader.specs.Faults.{Row}
use Rattle.reader.specs.Reading as reader
use Rattle.frames.specs.Drafts.{Drafted, Framed, beginning, lining}
use Rattle.frames.specs.Closing as close
use Rattle.divisors.specs.Divisors.{making}
use Rattle.trying.specs.Numbers as numbers
use Rattle.command.specs.declared.verb.Verb.TheVariants as verb
use Rattle.command.specs.declared.trial.Site.TheVariants as named
use Rattle.command.specs.declared.trial.Site as named_site
use Rattle.command.specs.Trials.{Asked}
use Rattle.command.specs.Slots.{slots_of}
use Rattle.command.specs.Commands.{Call, enters, reads, blanks, drafts, relates, closes, tries}
use Rattle.desk.specs.Sites.{Site, sets, divisors, frame}
use Rattle.desk.specs.Answers.{Reply, node, blanked, drafted, related, framed, tried, refuses, faulted, no_draft, no_frame, misused}

pub record Desked : Type 0 where
  pub sheet : State
  pub draft : Option Drafted
  pub frame : Option Framed

abbrev pub Outcome : Type 0
Outcome = Desked × Reply

-- a blank sheet, and neither draft nor frame
abbrev pub cleared : Desked
cleared = record { sheet = blank; draft = None; frame = None }

abbrev pub with_sheet : Desked → State → Desked
with_sheet D S = record { sheet = S; draft = D.draft; frame = D.frame }

abbrev pub with_draft : Desked → Drafted → Desked
with_draft D d = record { sheet = D.sheet; draft = Some d; frame = D.frame }

-- what was granted, or the refusal
abbrev pub granted : {A : Type 0} → (A → Reply) → Result A Refused → Reply
granted f (Ok a) = f a
granted f (Err r) = refuses r

abbrev pub entering : Desked → Node → Outcome
entering D n = (with_sheet D (enter.entering D.sheet n).0, granted node (enter.entering D.sheet n).1)

abbrev pub read_reply : Result ℕ Row → Reply
read_reply (Ok k) = node k
read_reply (Err f) = faulted f

abbrev pub reading : Desked → List ℕ → Outcome
reading D text = (with_sheet D (reader.reading D.sheet text).0, read_reply (reader.reading D.sheet text).1)

abbrev pub drafting_by : Desked → ℕ → Result Drafted Refused → Outcome
drafting_by D n (Ok d) = (with_draft D d, drafted n)
drafting_by D n (Err r) = (D, refuses r)

abbrev pub drafting : Desked → ℕ → Outcome
drafting D n = drafting_by D n (beginning n)

abbrev pub relating_by : Desked → ℕ → ℕ → Option Drafted → Outcome
relating_by D a b None = (D, no_draft)
relating_by D a b (Some d) = (with_draft D (lining d a b).0, granted (λ _. related a b) (lining d a b).1)

abbrev pub relating : Desked → ℕ → ℕ → Outcome
relating D a b = relating_by D a b D.draft

-- a draft that closes becomes the frame, and one that does not stays
abbrev pub closed : Desked → Result Framed (Drafted × Refused) → Outcome
closed D (Ok F) = (record { sheet = D.sheet; draft = None; frame = Some F }, framed F.size)
closed D (Err p) = (with_draft D p.0, refuses p.1)

abbrev pub closing_by : Desked → Option Drafted → Outcome
closing_by D None = (D, no_draft)
closing_by D (Some d) = closed D (close.closing d)

abbrev pub closing : Desked → Outcome
closing D = closing_by D D.draft

-- a trial of u and v with the slots s on a site
abbrev pub tried_on : List Node → ℕ → ℕ → List ℕ → Site → Reply
tried_on ns u v s g = granted (λ p. tried p.0 p.1) (numbers.tries g.admits g.means.meet g.means.join ns u v s)

abbrev pub on_divisors : (Site → Reply) → Result ℕ Refused → Reply
on_divisors f (Ok n) = f (divisors n)
on_divisors f (Err r) = refuses r

abbrev pub on_frame : (Site → Reply) → Option Framed → Reply
on_frame f (Some F) = f (frame F)
on_frame f None = no_frame

-- the site that was named, if there is one
abbrev pub on_site : Desked → (Site → Reply) → named_site.Site → Reply
on_site D f named.Sets = f sets
on_site D f (named.Divisors n) = on_divisors f (making n)
on_site D f named.Frame = on_frame f D.frame

abbrev pub trying_by : Desked → Asked → Option (List ℕ) → Reply
trying_by D t None = misused verb.Try
trying_by D t (Some s) = on_site D (tried_on D.sheet.nodes t.u t.v s) t.site

abbrev pub trying : Desked → Asked → Reply
trying D t = trying_by D t (slots_of D.sheet.nodes (max t.u t.v) t.slots)

abbrev pub step : Desked → Call → Outcome
step D (enters n) = entering D n
step D (reads text) = reading D text
step D blanks = (with_sheet D blank, blanked)
step D (drafts n) = drafting D n
step D (relates a b) = relating D a b
step D closes = closing D
step D (tries t) = (D, trying D t)
