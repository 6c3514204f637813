use Rattle.member_truth.proofs.Grown as grown
use Rattle.member_truth.proofs.histories_grow.Goals as goal

pub returns-clause-action : goal.returns-clause-action
returns-clause-action c = grown.acts

pub returns-clause-point : goal.returns-clause-point
returns-clause-point c = grown.points

pub returns-clause-slots : goal.returns-clause-slots
returns-clause-slots c = grown.settles

pub returns-clause-step : goal.returns-clause-step
returns-clause-step c = grown.steps
