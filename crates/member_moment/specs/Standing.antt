-- What a member keeps in the midst of a step, and how that stands for a member of the rules.
use Rattle.std.specs.Prelude.{◌≡◌, ◌++◌, List, reverse}
use Rattle.node_rules.specs.Lists.{In}
use Rattle.paxos_forms.specs.declared.message.Message.{Message}
use Rattle.paxos_forms.specs.Messages.{IsMessage}
use Rattle.member_ranges.specs.Ranges.{InRange}
use Rattle.group_rules.specs.declared.marks.Mark.{Mark}
use Rattle.group_rules.specs.Events.{Life, marks_of}
use Rattle.group_rules.specs.Member.{Member}
use Rattle.member_truth.specs.Ranged.{IsRanged}
use Rattle.member_parts.specs.Standing.{StandsFor}
use Rattle.member_tables.specs.Standing.{TablesFor}
use Rattle.member_own.specs.Keeping.{Keeps}
use Rattle.member_joining.specs.Joins.{JoinsBy}
use Rattle.kept_server.specs.Keeping.{left_of}
use Rattle.kept_server.specs.Redoing.{LeadTo}
use Rattle.member_moment.specs.declared.moment.Moment.{Moment}

-- the marks of what happened since this history, oldest first
pub record Marked (base l : Life) (ms : List Mark) : Type 0 where
  pub since : Life
  pub grown : l ≡ since ++ base
  pub told : ms ≡ marks_of (reverse since)

-- each can be spelt
abbrev pub AreMessages : List Message → Type 0
AreMessages ms = (m : Message) → In m ms → IsMessage m

-- All but the tables: who it is, its node, its parts, and what this step has committed, marked and sent. `base` is the history before the step: the commits lead from what it left
-- stored to what is stored now.
pub record RestFor (base : Life) (a : Member) (x : Moment) : Type 0 where
  pub me : x.me ≡ a.me
  pub contact : x.contact ≡ a.contact
  pub limits : x.limits ≡ a.setup.limits
  pub node : x.node ≡ a.node
  pub parts : StandsFor a.setup a.me.inc a.life x.parts
  pub own : Keeps a.me.inc a.life x.own
  pub joining : JoinsBy a.life x.joining
  pub committed : LeadTo (left_of base) x.committed.items (left_of a.life)
  pub marks : Marked base a.life x.marks.items
  pub sent : x.sent.items ≡ a.sent
  pub range : InRange a
  pub sent_range : AreMessages a.sent
  pub ranged : IsRanged a.life

-- All of it.
pub record Stands (base : Life) (a : Member) (x : Moment) : Type 0 where
  pub rest : RestFor base a x
  pub tables : TablesFor a x.tables
