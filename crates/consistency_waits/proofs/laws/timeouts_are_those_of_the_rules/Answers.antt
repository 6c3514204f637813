-- The sessions of the history, and the holds, ascend both.
use Rattle.consistency_waits.specs.Holding.{is_over}
use Rattle.consistency_waits.proofs.Chosen.{all_stay, first_chosen, none_chosen, rest_stays}
use Rattle.consistency_waits.proofs.Timeouts.{all_end, left_held}
use Rattle.consistency_waits.proofs.laws.timeouts_are_those_of_the_rules.Goals as goal

pub returns-clause-ended : goal.returns-clause-ended
returns-clause-ended c = all_end

pub returns-clause-left : goal.returns-clause-left
returns-clause-left c = left_held

pub returns-clause-first : goal.returns-clause-first
returns-clause-first c = first_chosen is_over

pub returns-clause-rest : goal.returns-clause-rest
returns-clause-rest c = rest_stays is_over

pub returns-clause-none : goal.returns-clause-none
returns-clause-none c = none_chosen is_over

pub returns-clause-all : goal.returns-clause-all
returns-clause-all c = all_stay is_over
