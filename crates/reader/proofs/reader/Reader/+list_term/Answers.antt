use Rattle.std.proofs.Common.{◌∙◌, arith}
use Rattle.reader.proofs.Reading.{term_open}
use Rattle.reader.proofs.Steps.{passed, begun, listed, no_token, no_part, no_held, adds, again}
use Rattle.reader.proofs.reader.Reader.+list_term.Goals as goal

-- the loop over the parts of a list
pub list-loop-token-init : goal.list-loop-token-init
list-loop-token-init t c = begun _ _ _

pub list-add-requires : goal.list-add-requires
list-add-requires t c =
    let a = adds _ _ c.loop-token.invariant c.in_ok-token.ensures.reads c.in_default.not-Close c.in_ok-part.ensures in
    record { part = a.0; held = a.1 }

pub list-loop-token-preserved : goal.list-loop-token-preserved
list-loop-token-preserved t c = again _ _ c.loop-token.invariant c.in_ok-token.ensures.reads c.in_default.not-Close c.in_ok-part.ensures c.in_ok-held.ensures c.in_ok-token.ensures.past

-- the ends of a list
pub list-returns-in_err-token : goal.list-returns-in_err-token
list-returns-in_err-token t c = rw (passed _ _ c.from_residual-in_err-token.ensures.1) (listed _ _ c.loop-token.invariant c.in_ok-sign.ensures (no_token _ _ c.loop-token.invariant c.in_err-token.ensures.reads))

pub list-returns-in_err-part : goal.list-returns-in_err-part
list-returns-in_err-part t c =
    rw (passed _ _ c.from_residual-in_err-part.ensures.1) (listed _ _ c.loop-token.invariant c.in_ok-sign.ensures (no_part _ _ c.loop-token.invariant c.in_ok-token.ensures.reads c.in_default.not-Close c.in_err-part.ensures))

pub list-returns-in_err-held : goal.list-returns-in_err-held
list-returns-in_err-held t c =
    rw (passed _ _ c.from_residual-in_err-held.ensures.1) (listed _ _ c.loop-token.invariant c.in_ok-sign.ensures (no_held _ _ c.loop-token.invariant c.in_ok-token.ensures.reads c.in_default.not-Close c.in_ok-part.ensures c.in_err-held.ensures))

-- a list is a term
pub term-returns-in-Open : goal.term-returns-in-Open
term-returns-in-Open t c = record { outcome = c.list.ensures.outcome ∙ term_open _ c.args.token _ _ c.args.left c.in-Open.is (omega arith); onward = c.list.ensures.onward }
