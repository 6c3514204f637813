-- Those so far are told.
use Rattle.std.proofs.Common.{◌≡◌}
use Rattle.group_rules.specs.Events.{Life}
use Rattle.group_rules.specs.Member.{Member}
use Rattle.local_sessions.specs.Acting.{tell}
use Rattle.member_moment.specs.Standing.{RestFor}
use Rattle.member_moment.proofs.moment.Moment.tell_all.Given as goal

abbrev pub invariant-loop-told : goal.invariant-loop-told
invariant-loop-told l = record {
  rest : (base : Life) (a : Member) → RestFor base a l.initial.self → RestFor base (tell l.yielded a) l.self;
  tables : l.self.tables ≡ l.initial.self.tables;
}
