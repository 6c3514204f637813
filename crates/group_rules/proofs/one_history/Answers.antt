use Rattle.group_rules.proofs.OneHistory.{is_lawful, is_the_one}
use Rattle.group_rules.proofs.one_history.Goals as goal

pub returns-clause-lawful : goal.returns-clause-lawful
returns-clause-lawful c = is_lawful

pub returns-clause-only : goal.returns-clause-only
returns-clause-only c = is_the_one
