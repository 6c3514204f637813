-- The last one is found at its place.
use Rattle.std.proofs.Common.{sym, ◌∙◌}
use Rattle.paxos_node.proofs.Lists.{last_got}
use Rattle.paxos_node.proofs.order.last_config.Goals as goal

pub returns-in-Some : goal.returns-in-Some
returns-in-Some c = c.as_slice.ensures ∙ last_got c.args.configs.now c.in-Some.config.now (sym c.in-Some.ensures.value)
