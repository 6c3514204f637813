-- The same test, through the values.
use Rattle.std.proofs.Common.{◌∙◌}
use Rattle.paxos_leader.proofs.Offers.{offered}
use Rattle.paxos_leader.proofs.counting.has_offer.Goals as goal

pub returns : goal.returns
returns c = c.contains_key.ensures ∙ offered c.args.offers.now.entries c.args.id
