-- What is read.
use Rattle.member_joining.proofs.Readings.{all_read, back, read_back, unread}
use Rattle.member_joining.proofs.laws.gives_are_read_back.Goals as goal

pub returns-clause-all : goal.returns-clause-all
returns-clause-all c = all_read

pub returns-clause-back : goal.returns-clause-back
returns-clause-back c = back

pub returns-clause-read : goal.returns-clause-read
returns-clause-read c = read_back

pub returns-clause-unread : goal.returns-clause-unread
returns-clause-unread c = unread
