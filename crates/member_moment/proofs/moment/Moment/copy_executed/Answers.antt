use Rattle.std.proofs.Common.{◌∙◌}
use Rattle.member_moment.proofs.moment.Moment.copy_executed.Goals as goal

pub returns : goal.returns
returns c = λ base a st. c.in_ok-copy.ensures ∙ c.executed.ensures base a st
