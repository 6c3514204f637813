use Rattle.group_order.proofs.Orders.{every_run_has_one}
use Rattle.group_order.proofs.slots_are_of_one_log.Goals as goal

pub returns : goal.returns
returns c = every_run_has_one c.runs_are_of_nodes.ensures c.one_value_in_each_slot.ensures.log c.one_list.ensures.kept c.consecutive_slots.ensures c.welcomes_follow.ensures.welcomes c.no_value_invented.ensures
