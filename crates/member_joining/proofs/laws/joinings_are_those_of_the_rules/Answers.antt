-- Thing by thing.
use Rattle.member_joining.proofs.Joined.{asks, commits, enters, fails, founds, leads, passes, restores, starts, states, takes}
use Rattle.member_joining.proofs.laws.joinings_are_those_of_the_rules.Goals as goal

pub returns-clause-founded : goal.returns-clause-founded
returns-clause-founded c = founds

pub returns-clause-leads : goal.returns-clause-leads
returns-clause-leads c = leads

pub returns-clause-started : goal.returns-clause-started
returns-clause-started c = starts

pub returns-clause-welcomed : goal.returns-clause-welcomed
returns-clause-welcomed c = enters

pub returns-clause-asked : goal.returns-clause-asked
returns-clause-asked c = asks

pub returns-clause-failed : goal.returns-clause-failed
returns-clause-failed c = fails

pub returns-clause-given : goal.returns-clause-given
returns-clause-given c = restores

pub returns-clause-taken : goal.returns-clause-taken
returns-clause-taken c = takes

pub returns-clause-committed : goal.returns-clause-committed
returns-clause-committed c = commits

pub returns-clause-stated : goal.returns-clause-stated
returns-clause-stated c = states

pub returns-clause-passed : goal.returns-clause-passed
returns-clause-passed c = passes
