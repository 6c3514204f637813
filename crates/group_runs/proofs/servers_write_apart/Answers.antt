use Rattle.group_runs.proofs.Moves.{named_runs}
use Rattle.group_runs.proofs.Written.{of_servers}
use Rattle.group_runs.proofs.servers_write_apart.Goals as goal

pub returns : goal.returns
returns c = of_servers c.steps_are_acts.ensures (named_runs c.welcomes_follow.ensures.named) c.only_taking_takes.ensures.messages c.only_taking_greets.ensures.messages
