-- A slot that is taken.
use Rattle.std.specs.Prelude.{◌≡◌, ◌≤◌, ◌&&◌, if◌then◌else◌, Bool, true, false, Option, Some, None, List, [], ◌∷◌}
use Rattle.gr_ids.specs.Names.{inc_eq}
use Rattle.gr_ids.specs.declared.names.Inc.{Inc}
use Rattle.gr_ids.specs.declared.names.ValueId.{ValueId}
use Rattle.txn_forms.specs.declared.body.Body.TheVariants.{Online as Arrives}
use Rattle.name_forms.specs.Incs.{IsInc}
use Rattle.group_rules.specs.Life.{taken}
use Rattle.slot_values.specs.declared.value.Value.{Value}
use Rattle.slot_values.specs.declared.value.What.{What}
use Rattle.slot_values.specs.declared.value.What.TheVariants.{Add, Remove}
use Rattle.node_rules.specs.declared.taken.Taken.{Taken}
use Rattle.node_rules.specs.Node.{Node}
use Rattle.node_rules.specs.Taking.{take}
use Rattle.group_rules.specs.Events.{Is, Life}
use Rattle.group_rules.specs.Member.{Member, by_node, fall, push}
use Rattle.group_rules.specs.Taking.{on_conflict, take_slot, takes_slots}
use Rattle.group_rules.specs.Welcomes.{greet}
use Rattle.group_rules.specs.declared.marks.Effect.{Effect}
use Rattle.group_rules.specs.declared.marks.Effect.TheVariants.{Conflict, Plain}
use Rattle.group_rules.specs.declared.marks.Cause.TheVariants.{OwnOnline, Removed as WasRemoved}
use Rattle.gr_ids.specs.declared.levels.MemberState.TheVariants.{Online}
use Rattle.list_state.specs.declared.held.Held.{Held}
use Rattle.list_state.specs.declared.held.Held.TheVariants.{Other}
use Rattle.member_ranges.specs.Taking.{takes_on}
use Rattle.member_moment.specs.declared.moment.Moment.{Moment}
use Rattle.member_moment.specs.declared.taking.Caused.{Caused}
use Rattle.member_moment.specs.declared.taking.Caused.TheVariants.{Nothing, Conflict as Conflicts, Welcome, Removal, Arrival}
use Rattle.member_moment.specs.Doing.{IsKept}
use Rattle.member_moment.specs.Standing.{Stands}

-- what is still to be done
abbrev pub done_of : Caused → Member → Member
done_of Nothing a = a
done_of (Conflicts i g) a = on_conflict i g a
done_of (Welcome i) a = greet i a
done_of Removal a = fall WasRemoved a
done_of Arrival a = push (Is Online OwnOnline) a

-- an Online entry is held
abbrev pub holds_online : Held → Bool
holds_online (Other (Arrives s)) = true
holds_online h = false

-- an own Online entry
abbrev pub arrives_by : Inc → ValueId → Held → Bool
arrives_by me i h = inc_eq i.origin me && holds_online h

-- what a value causes, besides a change of the members
abbrev pub news_cause : Inc → ValueId → Held → Caused
news_cause me i h = if arrives_by me i h then Arrival else Nothing

abbrev pub plain_cause : Inc → ValueId → What → Held → Caused
plain_cause me i (Add j) h = Welcome j.inc
plain_cause me i (Remove j) h = if inc_eq j me then Removal else Nothing
plain_cause me i w h = news_cause me i h

-- what a value causes that has this effect and holds this
abbrev pub cause_of : Inc → Value → Effect → Held → Caused
cause_of me v (Conflict g) h = Conflicts v.id g
cause_of me v Plain h = plain_cause me v.id v.what h
cause_of me v f h = Nothing

-- a joiner that is to be welcomed was added by an entry
abbrev pub Joins : Caused → Member → Type 0
Joins (Welcome i) a = IsInc i × (1 ≤ taken a.life)
Joins c a = Unit {0}

-- The slot is handed out by the node, and nothing else of the member knows it.
pub record HasPassed (t : Taken) (base : Life) (a : Member) (x : Moment) : Type 0 where
  pub more : List Taken
  pub took : (take a.node).took ≡ t ∷ more
  pub node : x.node ≡ (take a.node).node
  pub before : Node
  pub stands : Stands base a (record x { node = before })
  pub ready : takes_slots a.life ≡ true

-- The slot is taken, and what it causes is still to be done.
pub record Hands (c : Caused) (base : Life) (a : Member) (t : Taken) (y : Moment) : Type 0 where
  pub stands : IsKept (takes_on t a) → Stands base (takes_on t a) y
  pub joins : Joins c (takes_on t a)
  pub rest : take_slot t (by_node take a) ≡ done_of c (takes_on t a)

-- A member that takes slots has taken one, or there was none.
abbrev pub HasTaken : Option Caused → Moment → Moment → Type 0
HasTaken None x y = (base : Life) (a : Member) → Stands base a x → ((take a.node).took ≡ []) × Stands base a y
HasTaken (Some c) x y = (base : Life) (a : Member) → takes_slots a.life ≡ true → Stands base a x → (t : Taken) × (more : List Taken) × ((take a.node).took ≡ t ∷ more) × Hands c base a t y
