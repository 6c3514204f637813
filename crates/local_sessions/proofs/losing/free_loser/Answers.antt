-- A session that is killed loses all its keys.
use Rattle.std.proofs.Common.{[], sym, ◌∙◌}
use Rattle.row_locks.specs.Locking.{session_at, without_session}
use Rattle.local_sessions.proofs.Losers.{lost_one, none_killed}
use Rattle.local_sessions.proofs.losing.free_loser.Goals as goal

pub returns-then-loses_key-clause-keys : goal.returns-then-loses_key-clause-keys
returns-then-loses_key-clause-keys c j =
    let k = session_at c.args.locks.now.keys j in
    c.free.ensures.keys j ∙ (sym (none_killed c.args.list.now (without_session c.args.session k)) ∙ lost_one c.args.list.now c.args.session [] k (sym c.loses_key.ensures ∙ c.if-loses_key.true))
