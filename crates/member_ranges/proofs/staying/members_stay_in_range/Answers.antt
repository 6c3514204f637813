use Rattle.paxos_ranges.proofs.Rows.{step_spelt}
use Rattle.member_ranges.proofs.Begun.{founded_in_range, started_in_range}
use Rattle.member_ranges.proofs.Passed.{arrives, committed_in_range, done_in_range, passed, restored, sends_others, steps}
use Rattle.member_ranges.proofs.Taken.{taken_in_range}
use Rattle.member_ranges.proofs.Welcomed.{greeted}
use Rattle.member_ranges.proofs.staying.members_stay_in_range.Goals as goal

pub returns-clause-founded : goal.returns-clause-founded
returns-clause-founded c = λ s j good h. founded_in_range s good j h

pub returns-clause-started : goal.returns-clause-started
returns-clause-started c = λ s j x i good g k y. started_in_range s good j x i g k y

pub returns-clause-said : goal.returns-clause-said
returns-clause-said c = passed

pub returns-clause-sent : goal.returns-clause-sent
returns-clause-sent c = sends_others

pub returns-clause-node : goal.returns-clause-node
returns-clause-node c = steps

pub returns-clause-messages : goal.returns-clause-messages
returns-clause-messages c = λ e a g k few m h. (step_spelt e a.node g k.node few m h).0

pub returns-clause-welcomed : goal.returns-clause-welcomed
returns-clause-welcomed c = greeted

pub returns-clause-taken : goal.returns-clause-taken
returns-clause-taken c = taken_in_range

pub returns-clause-restored : goal.returns-clause-restored
returns-clause-restored c = restored

pub returns-clause-done : goal.returns-clause-done
returns-clause-done c = done_in_range

pub returns-clause-committed : goal.returns-clause-committed
returns-clause-committed c = committed_in_range

pub returns-clause-arrived : goal.returns-clause-arrived
returns-clause-arrived c = arrives
