-- Each thing.
use Rattle.prepare_acks.proofs.Requiring.{enters_requiring, founds_requiring, passes_requiring, restores_requiring, starts_requiring, takes_requiring}
use Rattle.prepare_acks.proofs.laws.requiring_gtids_are_those_of_the_rules.Goals as goal

pub returns-clause-founded : goal.returns-clause-founded
returns-clause-founded c = founds_requiring

pub returns-clause-started : goal.returns-clause-started
returns-clause-started c = starts_requiring

pub returns-clause-entered : goal.returns-clause-entered
returns-clause-entered c = enters_requiring

pub returns-clause-restored : goal.returns-clause-restored
returns-clause-restored c = restores_requiring

pub returns-clause-taken : goal.returns-clause-taken
returns-clause-taken c = takes_requiring

pub returns-clause-passed : goal.returns-clause-passed
returns-clause-passed c = passes_requiring
