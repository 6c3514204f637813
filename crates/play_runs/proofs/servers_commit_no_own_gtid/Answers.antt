use Rattle.group_runs.proofs.Moves.{named_runs, sound}
use Rattle.play_runs.proofs.Apart.{apart}
use Rattle.play_runs.proofs.servers_commit_no_own_gtid.Goals as goal

pub returns : goal.returns
returns c = apart (sound c.steps_are_acts.ensures (named_runs c.welcomes_follow.ensures.named) c.only_taking_takes.ensures.messages c.only_taking_greets.ensures.messages) c.servers_write_apart.ensures c.servers_commit_for_the_group.ensures
