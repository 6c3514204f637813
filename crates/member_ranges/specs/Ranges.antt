-- A member within the ranges that the forms of messages have: all that it sends can be spelt.
use Rattle.std.specs.Prelude.{◌≡◌, ◌+◌, ◌≤◌, ℕ, Bool, true, false, ◌||◌, Option, Some, None, List, [], length}
use Rattle.byte_forms.specs.Lists.{IsChain}
use Rattle.gr_ids.specs.declared.names.Inc.{Inc}
use Rattle.gr_ids.specs.declared.levels.Mode.{Mode}
use Rattle.gr_ids.specs.declared.levels.MemberState.{MemberState}
use Rattle.gr_ids.specs.declared.limits.Limits.{Limits}
use Rattle.gr_ids.specs.declared.levels.MemberState.TheVariants.{Error}
use Rattle.name_forms.specs.Incs.{IsInc}
use Rattle.gtid_sets.specs.Canonical.{IsUuid}
use Rattle.slot_values.specs.declared.value.Joiner.{Joiner}
use Rattle.slot_values.specs.Joiners.{IsJoiner, IsJoinerAfter}
use Rattle.slot_values.specs.Log.{Reading, Turns, incs}
use Rattle.paxos_forms.specs.Welcomes.{IsPrimary, IsWelcome, state_number}
use Rattle.paxos_forms.specs.declared.welcome.Welcome.{Welcome}
use Rattle.paxos_ranges.specs.Ranges.{IsInRange}
use Rattle.node_rules.specs.declared.seat.Seat.{Seat}
use Rattle.node_rules.specs.Lists.{In}
use Rattle.group_rules.specs.Events.{Cert, Committed, Did, Done, Enters, Founds, Is, Life, Restores, Setup, Starts, Took}
use Rattle.group_rules.specs.Life.{certs, entered, entry_at, has_give, is_error, is_offline, is_recovering, is_up, state, taken, view}
use Rattle.group_rules.specs.Member.{Member}
use Rattle.group_rules.specs.Queue.{is_done}
use Rattle.group_rules.specs.View.{View, seated}
use Rattle.group_rules.specs.World.{committed_of}
use Rattle.member_ranges.specs.Lives.{AllFit}
use Rattle.member_ranges.specs.Logs.{HasLog}

-- ---- the founding

abbrev pub setup_with : Limits → Mode → List Joiner → Setup
setup_with l m js = record { limits = l; mode = m; founders = js }

abbrev pub inc_of_joiner : Option Joiner → Option Inc
inc_of_joiner None = None
inc_of_joiner (Some j) = Some j.inc

abbrev pub IsFounderAfter : Option Joiner → Joiner → Type 0
IsFounderAfter before j = IsJoinerAfter (inc_of_joiner before) j

-- one to nine founders, ascending
pub record IsFounding (s : Setup) : Type 0 where
  pub founders : IsChain IsFounderAfter None s.founders
  pub some : 1 ≤ length s.founders
  pub few : length s.founders ≤ 9
  pub horizon_above : 10 ≤ s.limits.horizon
  pub horizon_below : s.limits.horizon ≤ 200
  pub block_above : 1 ≤ s.limits.block
  pub block_below : s.limits.block ≤ 1000000
  pub group : IsUuid s.limits.group

-- ---- the view

-- a member has a seat that a Welcome can tell
abbrev pub IsSeat : Seat → Type 0
IsSeat s = IsJoiner s.joiner × (1 ≤ state_number s.state)

-- a view that a Welcome can tell, after the entries up to this place
pub record IsView (place : ℕ) (v : View) : Type 0 where
  pub number_above : 1 ≤ v.number
  pub number_below : v.number ≤ place + 1
  pub primary : IsPrimary v.primary
  pub elected : v.elected ≤ place
  pub seats : (s : Seat) → In s v.seats → IsSeat s

-- the history is at the place of the node's log, and the members there have the seats of the view
pub record Shows (p : ℕ) (v : View) (r : Reading) : Type 0 where
  pub place : r.place ≡ p
  pub seats : incs r.members ≡ seated v.seats
  pub view : IsView p v

-- ---- the member

-- it has no view: it isn't welcomed, or was left
abbrev pub is_outside : MemberState → Bool
is_outside s = is_offline s || is_error s

-- no entry was taken, nothing was certified, done or committed
pub record IsUntouched (l : Life) : Type 0 where
  pub certified : certs l ≡ []
  pub untaken : (p : ℕ) → entry_at l p ≡ None
  pub undone : (p : ℕ) → is_done l p ≡ false
  pub uncommitted : (cs : List Cert) → committed_of l cs ≡ []

-- until its Give comes a joiner stays at the place of its Add, and isn't ONLINE
pub record IsWaiting (p : ℕ) (s : MemberState) (w : Welcome) : Type 0 where
  pub place : p ≡ w.place
  pub down : is_up s ≡ false

-- A node has a log from its founding or its Welcome on. In ERROR a member shows nothing any more.
pub record InRange (a : Member) : Type 0 where
  pub setup : IsFounding a.setup
  pub joiner : IsJoiner a.me
  pub contact : IsInc a.contact
  pub me : a.node.me ≡ a.me.inc
  pub horizon : a.node.horizon ≡ a.setup.limits.horizon
  pub node : IsInRange a.node
  pub log : (w : Turns) → a.node.turns ≡ Some w → HasLog a.node w
  pub shown : is_error (state a.life) ≡ false → (w : Turns) → a.node.turns ≡ Some w → Shows (taken a.life) (view a.setup a.life) w.reading
  pub outside : a.node.turns ≡ None → is_outside (state a.life) ≡ true
  pub offline : is_offline (state a.life) ≡ true → a.node.turns ≡ None
  pub before : is_offline (state a.life) ≡ true → (taken a.life ≡ 0) × IsUntouched a.life
  pub welcomed : is_recovering (state a.life) ≡ true → (w : Welcome) × (entered a.life ≡ Some w) × IsWelcome w
  pub waits : has_give a.life ≡ false → (w : Welcome) → entered a.life ≡ Some w → IsWaiting (taken a.life) (state a.life) w × IsUntouched a.life
  pub life : AllFit a.setup a.life

-- ---- what changes it

-- a begin, a Welcome, an entry, a place that is done, a commit, a Give, and a state that isn't ERROR
abbrev pub is_of_range : Did → Bool
is_of_range Founds = true
is_of_range (Starts x) = true
is_of_range (Took e) = true
is_of_range (Done p) = true
is_of_range (Committed g) = true
is_of_range (Enters w) = true
is_of_range (Restores g cs) = true
is_of_range (Is Error c) = false
is_of_range (Is s c) = true
is_of_range d = false
