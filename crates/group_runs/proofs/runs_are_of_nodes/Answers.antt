use Rattle.group_runs.proofs.Moves.{every_run, named_runs}
use Rattle.group_runs.proofs.runs_are_of_nodes.Goals as goal

pub returns : goal.returns
returns c = every_run c.steps_are_acts.ensures (named_runs c.welcomes_follow.ensures.named) c.only_taking_takes.ensures.messages c.only_taking_greets.ensures.messages
