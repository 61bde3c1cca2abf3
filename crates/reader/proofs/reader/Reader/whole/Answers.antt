use Rattle.reader.specs.Reading.{read_term, read_end}
use Rattle.reader.proofs.Steps.{Step, both, passed, failed, followed, token_failed, token_followed}
use Rattle.reader.specs.declared.token.Token.{Token}
use Rattle.std.proofs.Common.{ℕ}
use Rattle.reader.proofs.reader.Reader.whole.Goals as goal

abbrev term_first : Token → Step ℕ
term_first t = both (λ text. read_term 16 text t) (λ k text. read_end text k)

pub returns-in_err-token : goal.returns-in_err-token
returns-in_err-token c = rw (passed _ _ c.from_residual.ensures.1) (token_failed term_first c.in_err-token.ensures.reads)

pub returns-in_err-node : goal.returns-in_err-node
returns-in_err-node c = rw (passed _ _ c.from_residual-in_err-node.ensures.1) (token_followed term_first c.in_ok-token.ensures.reads (failed _ _ c.in_err-node.ensures))

pub returns : goal.returns
returns c = token_followed term_first c.in_ok-token.ensures.reads (followed _ _ c.in_ok-node.ensures c.end.ensures)
