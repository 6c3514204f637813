use Rattle.group_promises.proofs.Truths.{servers_commit}
use Rattle.group_promises.proofs.servers_commit_for_the_group.Goals as goal

pub returns : goal.returns
returns c = servers_commit c.runs_are_of_nodes.ensures c.servers_write_apart.ensures c.slots_are_of_one_log.ensures c.bytes_of_bodies.ensures.spells c.bytes_of_bodies.ensures.reads c.a_give_tells_of_the_list.ensures c.certifiers_agree.ensures.verdicts
