-- The places stay.
use Rattle.member_parts.specs.Remote.{free_from}
use Rattle.member_parts.proofs.Queues.{after_done}
use Rattle.member_parts.proofs.remotes.Remotes.done.Goals as goal

pub invariant_of-self : goal.invariant_of-self
invariant_of-self c = after_done c.done.result _ c.self.inside.queue c.done.new.self c.args.done.place (free_from c.self.inside.last) c.args.done.changes c.args.done.items c.done.ensures.ok c.done.ensures.err c.self.invariant
