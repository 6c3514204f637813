-- What is read, and what happens beside the tables.
use Rattle.member_tables.proofs.Called.{is_reply}
use Rattle.member_tables.proofs.Kept.{stands_on}
use Rattle.member_tables.proofs.Read.{reads, restored}
use Rattle.member_tables.proofs.laws.tables_stand_for_their_member.Goals as goal

pub returns-clause-read : goal.returns-clause-read
returns-clause-read c a x f = reads a x f

pub returns-clause-passed : goal.returns-clause-passed
returns-clause-passed c a x d h i n f = stands_on a.setup a.me.inc a.life x d h i n f

pub returns-clause-restored : goal.returns-clause-restored
returns-clause-restored c a x g cs k n f = restored a x g cs k n f

pub returns-clause-replied : goal.returns-clause-replied
returns-clause-replied c a x s r f = is_reply a x s r f
