-- Those so far have begun.
use Rattle.std.proofs.Common.{◌≡◌, drop}
use Rattle.group_rules.specs.Events.{Life}
use Rattle.group_rules.specs.Member.{Member}
use Rattle.member_moment.specs.Aside.{ButParts}
use Rattle.member_moment.proofs.Begun.{AreHeld, Beginning}
use Rattle.member_moment.proofs.moment.Moment.begin_all.Given as goal

abbrev pub invariant-loop-one : goal.invariant-loop-one
invariant-loop-one l = record {
  begun : (base : Life) (a : Member) → AreHeld l.one-items a → ButParts base a l.initial.self → Beginning base a l.one-items (drop l.one-index l.one-items) l.self;
  parts : l.self.parts ≡ l.initial.self.parts;
}
