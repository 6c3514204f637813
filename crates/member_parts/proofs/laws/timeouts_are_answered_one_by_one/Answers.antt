-- As the holds have it.
use Rattle.member_parts.proofs.Turns.{all_answered}
use Rattle.member_parts.proofs.laws.timeouts_are_answered_one_by_one.Goals as goal

pub returns : goal.returns
returns c = all_answered
