-- How a member begins.
use Rattle.std.specs.Prelude.{◌≤◌, length}
use Rattle.gr_ids.specs.declared.names.Inc.{Inc}
use Rattle.name_forms.specs.Incs.{IsInc}
use Rattle.gtid_sets.specs.Canonical.{IsNumber, IsUuid}
use Rattle.slot_values.specs.Slots.{last_slot}
use Rattle.slot_values.specs.Spelling.{last_u32}
use Rattle.slot_values.specs.declared.value.Joiner.{Joiner}
use Rattle.paxos_forms.specs.declared.message.Message.{Message}
use Rattle.paxos_forms.specs.declared.message.Wire.TheVariants.{Offer}
use Rattle.paxos_forms.specs.declared.recovery.Given.{Given}
use Rattle.group_rules.specs.Member.{Member}
use Rattle.group_rules.specs.Steps.{add_of}
use Rattle.member_moment.specs.declared.moment.Moment.{Moment}
use Rattle.member_moment.specs.Standing.{Stands}

-- it stands for the member, whose history has begun before any step
abbrev pub HasBegun : Member → Moment → Type 0
HasBegun a x = Stands a.life a x

-- a committed transaction that can be given to those that join
pub record IsKeepable (g : Given) : Type 0 where
  pub place_above : 1 ≤ g.place
  pub place_below : g.place ≤ last_slot
  pub origin : IsInc g.origin
  pub source : IsUuid g.gtid.source
  pub number : IsNumber g.gtid.number
  pub body : length g.body ≤ last_u32

-- a joiner's Add, for its contact
abbrev pub add_message : Joiner → Inc → Message
add_message j i = record { from = j.inc; to = i; wire = Offer (add_of j) }
