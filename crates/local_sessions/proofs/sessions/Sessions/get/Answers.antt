-- Want of memory comes before anything is done.
use Rattle.local_sessions.proofs.Active.{on_err_from}
use Rattle.local_sessions.proofs.sessions.Sessions.get.Goals as goal

pub returns-in_err-row-clause-err : goal.returns-in_err-row-clause-err
returns-in_err-row-clause-err c = on_err_from c.from_residual.result c.in_default.ensures.none
