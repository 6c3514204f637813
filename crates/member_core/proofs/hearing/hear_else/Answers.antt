use Rattle.std.proofs.lemmas.Result.{on_ok_weaker}
use Rattle.node_rules.specs.declared.event.PaxosEvent.TheVariants.{Heard}
use Rattle.group_rules.specs.Member.{at_node}
use Rattle.group_rules.specs.Recovery.{check_ask}
use Rattle.member_truth.proofs.Grown.{checks}
use Rattle.member_moment.proofs.Doing.{does_then}
use Rattle.member_core.proofs.hearing.hear_else.Goals as goal

pub returns : goal.returns
returns c = on_ok_weaker c.check_ask.result (λ d. does_then (at_node (Heard c.args.message)) check_ask checks c.args.moment.now c.hear_at_node.new.moment c.check_ask.new.moment c.in_ok-hear_at_node.ensures d) c.check_ask.ensures
