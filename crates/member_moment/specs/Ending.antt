-- What ends at a fall.
use Rattle.local_sessions.specs.declared.told.TakenOwn.{TakenOwn}
use Rattle.member_backlog.specs.declared.uncommitted.Uncommitted.{Uncommitted}

-- what a fall asks of a transaction that waits
abbrev pub taken_of : Uncommitted → TakenOwn
taken_of u = record { id = u.id; gtid = u.gtid }
