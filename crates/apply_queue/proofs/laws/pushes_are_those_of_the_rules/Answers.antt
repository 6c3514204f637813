-- Above all that are certified; and one by one.
use Rattle.apply_queue.proofs.Pushes.{above, above_given, one_more}
use Rattle.apply_queue.proofs.laws.pushes_are_those_of_the_rules.Goals as goal

pub returns-clause-above : goal.returns-clause-above
returns-clause-above c = above

pub returns-clause-given : goal.returns-clause-given
returns-clause-given c = above_given

pub returns-clause-one_more : goal.returns-clause-one_more
returns-clause-one_more c = one_more
