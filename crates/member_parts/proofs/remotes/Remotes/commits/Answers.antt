-- The first one is taken out.
use Rattle.std.proofs.Common.{ap}
use Rattle.member_parts.specs.Remote.{Remote, free_from}
use Rattle.member_parts.proofs.Queues.{first_out, none_out}
use Rattle.member_parts.proofs.remotes.Remotes.commits.Goals as goal

pub returns-clause-some : goal.returns-clause-some
returns-clause-some c = first_out c.commits.result c.self.inside.queue c.args.self.now.queue c.commits.new.self (ap (λ (r : Remote). r.queue) c.self.view_is) c.commits.ensures.some

pub invariant_of-self : goal.invariant_of-self
invariant_of-self c = none_out c.commits.result c.self.inside.queue c.commits.new.self _ (free_from c.self.inside.last) c.commits.ensures.none c.commits.ensures.some c.self.invariant
