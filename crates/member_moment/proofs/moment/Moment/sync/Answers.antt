-- One byte, which the place is to hold as a Sync.
use Rattle.member_tables.proofs.Results.{on_ok}
use Rattle.member_moment.proofs.Sending.{sync_is_sent, sync_is_what}
use Rattle.member_moment.proofs.moment.Moment.sync.Goals as goal

pub own-requires : goal.own-requires
own-requires c = sync_is_what c.in_ok-bytes.bytes c.in_ok-bytes.ensures.ok

pub returns-clause-rest : goal.returns-clause-rest
returns-clause-rest c = on_ok c.own.result (sync_is_sent c.args.self.now c.own.new.self c.in_ok-bytes.bytes c.in_ok-bytes.ensures.ok) c.own.ensures.rest
