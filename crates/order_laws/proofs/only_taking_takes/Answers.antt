-- Row by row.
use Rattle.order_laws.proofs.Hands.{only_taking, hearing_takes_none}
use Rattle.order_laws.proofs.only_taking_takes.Goals as goal

pub returns-clause-acts : goal.returns-clause-acts
returns-clause-acts c = only_taking

pub returns-clause-messages : goal.returns-clause-messages
returns-clause-messages c = hearing_takes_none
