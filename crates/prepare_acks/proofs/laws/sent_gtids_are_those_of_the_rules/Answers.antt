-- Each thing.
use Rattle.prepare_acks.proofs.Sending.{founds_sent, makes, passes_sent, starts_sent}
use Rattle.prepare_acks.proofs.laws.sent_gtids_are_those_of_the_rules.Goals as goal

pub returns-clause-founded : goal.returns-clause-founded
returns-clause-founded c = founds_sent

pub returns-clause-started : goal.returns-clause-started
returns-clause-started c = starts_sent

pub returns-clause-made : goal.returns-clause-made
returns-clause-made c = makes

pub returns-clause-passed : goal.returns-clause-passed
returns-clause-passed c = passes_sent
