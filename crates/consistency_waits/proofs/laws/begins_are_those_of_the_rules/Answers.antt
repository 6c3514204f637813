-- The sessions of the history, and the holds, ascend both.
use Rattle.consistency_waits.proofs.Begins.{all_begin, idle, left_held}
use Rattle.consistency_waits.proofs.laws.begins_are_those_of_the_rules.Goals as goal

pub returns-clause-begun : goal.returns-clause-begun
returns-clause-begun c = all_begin

pub returns-clause-left : goal.returns-clause-left
returns-clause-left c = left_held

pub returns-clause-idle : goal.returns-clause-idle
returns-clause-idle c = idle
