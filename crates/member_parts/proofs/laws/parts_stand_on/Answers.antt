-- Each part passes.
use Rattle.member_parts.proofs.Passed.{asked, passes, stated}
use Rattle.member_parts.proofs.laws.parts_stand_on.Goals as goal

pub returns-clause-passed : goal.returns-clause-passed
returns-clause-passed c = passes

pub returns-clause-stated : goal.returns-clause-stated
returns-clause-stated c = stated

pub returns-clause-asked : goal.returns-clause-asked
returns-clause-asked c = asked
