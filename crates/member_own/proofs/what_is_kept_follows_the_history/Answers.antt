use Rattle.member_own.proofs.Kept as kept
use Rattle.member_own.proofs.what_is_kept_follows_the_history.Goals as goal

pub returns-clause-made : goal.returns-clause-made
returns-clause-made c = kept.makes

pub returns-clause-ticked : goal.returns-clause-ticked
returns-clause-ticked c = kept.ticks_once

pub returns-clause-taken : goal.returns-clause-taken
returns-clause-taken c = kept.takes

pub returns-clause-passed : goal.returns-clause-passed
returns-clause-passed c = kept.passes
