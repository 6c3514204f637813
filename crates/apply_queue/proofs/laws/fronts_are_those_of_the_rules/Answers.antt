-- The first, and what is shown.
use Rattle.apply_queue.proofs.Fronts.{first_is, front_is, rises, shows_queue}
use Rattle.apply_queue.proofs.laws.fronts_are_those_of_the_rules.Goals as goal

pub returns-clause-rising : goal.returns-clause-rising
returns-clause-rising c = rises

pub returns-clause-first : goal.returns-clause-first
returns-clause-first c = first_is

pub returns-clause-front : goal.returns-clause-front
returns-clause-front c = front_is

pub returns-clause-shown : goal.returns-clause-shown
returns-clause-shown c = shows_queue
