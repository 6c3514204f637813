-- The next incarnation, and an offline write.
use Rattle.row_store.proofs.Servers.{keeps, writes}
use Rattle.row_store.proofs.laws.rows_stay_with_their_server.Goals as goal

pub returns-clause-kept : goal.returns-clause-kept
returns-clause-kept c x a cs h ws p k = keeps x a cs h ws p k

pub returns-clause-written : goal.returns-clause-written
returns-clause-written c y w old new h f s u n a b = writes y w old new h f s u n a b
