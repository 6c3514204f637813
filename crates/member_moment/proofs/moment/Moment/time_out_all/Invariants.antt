-- What is left to end, once some have ended.
use Rattle.std.proofs.Common.{length}
use Rattle.group_rules.specs.Events.{Life}
use Rattle.group_rules.specs.Member.{Member}
use Rattle.member_moment.specs.Standing.{Stands}
use Rattle.member_moment.proofs.Ended.{Timing}
use Rattle.member_moment.proofs.moment.Moment.time_out_all.Given as goal

abbrev pub invariant-loop-session : goal.invariant-loop-session
invariant-loop-session l = (base : Life) (a : Member) → Stands base a l.initial.self → Timing base a l.self

abbrev pub decreases-loop-session : goal.decreases-loop-session
decreases-loop-session l = length l.self.parts.waits
