use Rattle.member_tables.proofs.Nexts.{comes_next, places as known_places}
use Rattle.member_tables.proofs.laws.what_waits_may_come_next.Goals as goal

pub returns-clause-places : goal.returns-clause-places
returns-clause-places c = known_places

pub returns-clause-next : goal.returns-clause-next
returns-clause-next c = comes_next
