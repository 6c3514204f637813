-- The places stay.
use Rattle.member_parts.specs.Remote.{free_from}
use Rattle.member_parts.proofs.Queues.{after_handed}
use Rattle.member_parts.proofs.remotes.Remotes.next_work.Goals as goal

pub invariant_of-self : goal.invariant_of-self
invariant_of-self c = after_handed c.next_work.result _ _ c.self.inside.queue c.next_work.new.self (free_from c.self.inside.last) c.next_work.ensures.handed c.next_work.ensures.err c.self.invariant
