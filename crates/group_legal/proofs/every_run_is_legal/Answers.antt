use Rattle.group_legal.proofs.Legals.{every_run_legal}
use Rattle.group_legal.proofs.every_run_is_legal.Goals as goal

pub returns : goal.returns
returns c = every_run_legal c.runs_are_of_nodes.ensures c.servers_write_apart.ensures c.slots_are_of_one_log.ensures c.bytes_of_bodies.ensures.spells c.bytes_of_bodies.ensures.reads c.a_give_tells_of_the_list.ensures c.certifiers_agree.ensures.verdicts
