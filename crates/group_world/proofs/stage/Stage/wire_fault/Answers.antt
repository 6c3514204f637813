-- What is wrong with the letter that a step names, if it names one.
use Rattle.std.proofs.Common.{None, refl}
use Rattle.group_world.proofs.stage.Stage.wire_fault.Goals as goal

pub returns-in-Deliver-clause-kind : goal.returns-in-Deliver-clause-kind
returns-in-Deliver-clause-kind c = (_, c.letter_fault.ensures)

pub returns-in-Lose-clause-kind : goal.returns-in-Lose-clause-kind
returns-in-Lose-clause-kind c = (_, c.letter_fault-in-Lose.ensures)

pub returns-in_default-clause-kind : goal.returns-in_default-clause-kind
returns-in_default-clause-kind c = (None, refl)
