use Rattle.std.proofs.lemmas.Result.{on_ok_weaker}
use Rattle.paxos_forms.specs.declared.message.Wire.TheVariants.{Gone}
use Rattle.node_rules.specs.declared.event.PaxosEvent.TheVariants.{Heard}
use Rattle.group_rules.specs.declared.marks.Cause.TheVariants.{Gone as WasGone}
use Rattle.group_rules.specs.Member.{at_node, fall}
use Rattle.member_truth.proofs.Grown.{falls}
use Rattle.member_moment.proofs.Doing.{does_then}
use Rattle.member_core.specs.Hearing.{message_of}
use Rattle.member_core.proofs.hearing.hear_gone.Goals as goal

pub returns : goal.returns
returns c =
    on_ok_weaker c.fall.result
    (λ d. does_then (at_node (Heard (message_of c.args.from c.args.to Gone))) (fall WasGone) (falls WasGone) c.args.moment.now c.hear_at_node.new.moment c.fall.new.self c.in_ok-hear_at_node.ensures d) c.fall.ensures
