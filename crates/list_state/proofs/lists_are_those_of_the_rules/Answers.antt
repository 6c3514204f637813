-- The entry, and what is made.
use Rattle.list_state.proofs.Followed.{entries_agree, passed, took}
use Rattle.list_state.proofs.Joined.{enters, kept_of_add, restores}
use Rattle.list_state.proofs.lists_are_those_of_the_rules.Goals as goal

pub returns-clause-entry : goal.returns-clause-entry
returns-clause-entry c = entries_agree

pub returns-clause-taken : goal.returns-clause-taken
returns-clause-taken c = took

pub returns-clause-welcomed : goal.returns-clause-welcomed
returns-clause-welcomed c = enters

pub returns-clause-given : goal.returns-clause-given
returns-clause-given c = restores

pub returns-clause-kept : goal.returns-clause-kept
returns-clause-kept c = kept_of_add

pub returns-clause-passed : goal.returns-clause-passed
returns-clause-passed c = passed
