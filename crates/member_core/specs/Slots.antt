-- Slots that are taken.
use Rattle.std.specs.Prelude.{◌≡◌, ◌^◌, Bool, true, false, List, [], ◌∷◌}
use Rattle.node_rules.specs.declared.taken.Taken.{Taken}
use Rattle.node_rules.specs.Taking.{take}
use Rattle.group_rules.specs.Events.{Life}
use Rattle.group_rules.specs.Member.{Member, by_node}
use Rattle.group_rules.specs.Points.{point}
use Rattle.group_rules.specs.Taking.{next_slot, propose, rounds, take_slot, take_slots, takes_slots}
use Rattle.member_moment.specs.declared.moment.Moment.{Moment}
use Rattle.member_moment.specs.declared.taking.Caused.{Caused}
use Rattle.member_moment.specs.Taking.{Joins}
use Rattle.member_moment.specs.Doing.{IsKept}
use Rattle.member_moment.specs.Standing.{Stands}

-- it takes slots, and has taken this
abbrev pub MayCause : Caused → Member → Type 0
MayCause c a = (takes_slots a.life ≡ true) × Joins c a

-- the slot is taken, with a point after it
abbrev pub pass_slot : Taken → Member → Member
pass_slot t a = point (take_slot t (by_node take a))

-- all slots that are decided, and those behind a first one
unfoldable pub take_all : Member → Member
take_all a = take_slots (2 ^ 42) a

unfoldable pub take_more : Member → Member
take_more a = take_slots 4398046511103 a

-- all that are decided, and then a leader proposes
abbrev pub round_once : Member → Member
round_once a = propose (take_all a)

unfoldable pub round_more : Member → Member
round_more a = rounds (2 ^ 42) a

-- There was a slot to take and this was done, or there is none and nothing was.
abbrev pub HasPassed : (Taken → Member → Member) → Bool → Moment → Moment → Type 0
HasPassed f false x y = (base : Life) (a : Member) → Stands base a x → (next_slot a ≡ []) × Stands base a y
HasPassed f true x y = (base : Life) (a : Member) → Stands base a x
    → (t : Taken) × (more : List Taken) × (next_slot a ≡ t ∷ more) × (IsKept (f t a) → Stands base (f t a) y)
