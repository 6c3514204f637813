use Rattle.group_runs.proofs.Moves.{named_runs, sound}
use Rattle.play_runs.proofs.Stepping.{runs_at, step_safe}
use Rattle.play_runs.proofs.steps_of_plays_are_promised.Goals as goal

pub returns-clause-members : goal.returns-clause-members
returns-clause-members c = runs_at (sound c.steps_are_acts.ensures (named_runs c.welcomes_follow.ensures.named) c.only_taking_takes.ensures.messages c.only_taking_greets.ensures.messages)

pub returns-clause-steps : goal.returns-clause-steps
returns-clause-steps c = step_safe c.every_step_is_promised.ensures (sound c.steps_are_acts.ensures (named_runs c.welcomes_follow.ensures.named) c.only_taking_takes.ensures.messages c.only_taking_greets.ensures.messages)
