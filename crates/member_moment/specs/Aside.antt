-- A member in the midst of an act, where its parts or its tables know already how that ends.
use Rattle.std.specs.Prelude.{◌≡◌}
use Rattle.member_ranges.specs.Ranges.{InRange}
use Rattle.group_rules.specs.Events.{Life}
use Rattle.group_rules.specs.Member.{Member}
use Rattle.member_truth.specs.Ranged.{IsRanged}
use Rattle.member_tables.specs.Standing.{TablesFor}
use Rattle.member_own.specs.Keeping.{Keeps}
use Rattle.member_joining.specs.Joins.{JoinsBy}
use Rattle.kept_server.specs.Keeping.{left_of}
use Rattle.kept_server.specs.Redoing.{LeadTo}
use Rattle.member_moment.specs.declared.moment.Moment.{Moment}
use Rattle.member_moment.specs.Standing.{AreMessages, Marked}

-- all but the parts and the tables
pub record AsideFor (base : Life) (a : Member) (x : Moment) : Type 0 where
  pub me : x.me ≡ a.me
  pub contact : x.contact ≡ a.contact
  pub limits : x.limits ≡ a.setup.limits
  pub node : x.node ≡ a.node
  pub own : Keeps a.me.inc a.life x.own
  pub joining : JoinsBy a.life x.joining
  pub committed : LeadTo (left_of base) x.committed.items (left_of a.life)
  pub marks : Marked base a.life x.marks.items
  pub sent : x.sent.items ≡ a.sent
  pub range : InRange a
  pub sent_range : AreMessages a.sent
  pub ranged : IsRanged a.life

-- all but the parts
pub record ButParts (base : Life) (a : Member) (x : Moment) : Type 0 where
  pub aside : AsideFor base a x
  pub tables : TablesFor a x.tables
