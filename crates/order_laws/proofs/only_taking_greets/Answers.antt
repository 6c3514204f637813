-- Row by row.
use Rattle.order_laws.proofs.Greets.{only_taking_greets, hearing_greets_nobody, taking_is_silent}
use Rattle.order_laws.proofs.only_taking_greets.Goals as goal

pub returns-clause-acts : goal.returns-clause-acts
returns-clause-acts c = only_taking_greets

pub returns-clause-messages : goal.returns-clause-messages
returns-clause-messages c = hearing_greets_nobody

pub returns-clause-silent : goal.returns-clause-silent
returns-clause-silent c = taking_is_silent
