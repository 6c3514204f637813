use Rattle.group_lives.proofs.Sets.{executed_agrees}
use Rattle.group_lives.proofs.executed_sets_agree.Goals as goal

pub returns : goal.returns
returns c = executed_agrees
