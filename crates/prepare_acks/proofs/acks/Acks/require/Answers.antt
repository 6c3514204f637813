-- The map has the new list at the GTID, and at each other one what it had.
use Rattle.std.proofs.Common.{Some}
use Rattle.prepare_acks.proofs.MapReads.{changed}
use Rattle.prepare_acks.proofs.acks.Acks.require.Goals as goal

pub returns-clause-ok : goal.returns-clause-ok
returns-clause-ok c g = rw (← c.self.view_is, ← c.in_ok-members.ensures) (changed _ _ c.args.gtid (Some c.in_ok-members.members) c.in_ok-insert.ensures.updates.0 g)
