use Rattle.std.proofs.lemmas.Result.{on_ok_weaker}
use Rattle.member_core.proofs.Slotting.{does_propose, proposes_not}
use Rattle.member_core.proofs.slots.propose.Goals as goal

pub returns-then-is_in_error : goal.returns-then-is_in_error
returns-then-is_in_error c = proposes_not c.args.moment.now c.if-is_in_error.ensures

pub returns : goal.returns
returns c = on_ok_weaker c.at_node.result (λ d. does_propose c.args.moment.now c.at_node.new.self c.if-is_in_error.ensures (d tt)) c.at_node.ensures.does
