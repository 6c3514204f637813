-- The one log of a run: each slot that any incarnation takes or skips stands in it, with what it became there.
use Rattle.std.specs.Prelude.{◌≡◌, ◌⊎◌, ◌<◌, ◌≤◌, ℕ, suc, Bool, true, false, Some, None, List, [], ◌∷◌, length, filter, nat_le}
use Rattle.gr_ids.specs.Names.{has_inc}
use Rattle.gr_ids.specs.declared.names.Inc.{Inc}
use Rattle.slot_values.specs.declared.value.Joiner.{Joiner}
use Rattle.slot_values.specs.declared.value.Value.{Value}
use Rattle.slot_values.specs.declared.value.What.TheVariants.{Add}
use Rattle.slot_values.specs.Values.{is_noop}
use Rattle.slot_values.specs.Log.{Reading, incs, became}
use Rattle.slot_values.specs.declared.kept.Kept.TheVariants.{At as KeptAt, Skipped as IsSkipped}
use Rattle.node_rules.specs.declared.taken.Taken.{Taken}
use Rattle.gtid_sets.specs.Sets.{minus}
use Rattle.paxos_forms.specs.declared.welcome.Welcome.{Welcome}
use Rattle.paxos_forms.specs.declared.recovery.Give.{Give}
use Rattle.group_rules.specs.Events.{Did, Took, Skips, Enters, Restores, Life, Setup, Entry, Cert}
use Rattle.group_rules.specs.Life.{state, is_recovering, view, taken, executed, entry_at, entered, has_give}
use Rattle.group_rules.specs.Parts.{open_parts}
use Rattle.group_rules.specs.Legal.{IsPast, DidAt, last_slot, WasMade, SameEntry}
use Rattle.group_rules.specs.Taking.{entry_of}
use Rattle.group_rules.specs.Recovery.{certs_given, give_of}
use Rattle.group_rules.specs.Rows.{known}
use Rattle.group_rules.specs.World.{Past, Does, Move, world_after, life_in}
use Rattle.group_rules.specs.OneList.{listed, reading_of, value_at, before_slot}
use Rattle.group_bridge.specs.Left.{taken_left}
use Rattle.group_runs.specs.Runs.{IsSetup, is_founder, AllDid}

-- what was taken stands in the log (the last slot first), and became what it becomes after the log before it
pub record OnLog (t : Setup) (log : List Value) (y : Taken) : Type 0 where
  pub before : ℕ
  pub slot : y.slot ≡ suc before
  pub within : before < length log
  pub value : value_at log y.slot ≡ Some y.value
  pub kept : y.kept ≡ became (reading_of t (before_slot log y.slot)) y.value

-- what was left is what the rules leave of such a slot
abbrev pub LeftBy : Setup → List Value → Past → Inc → Did → Type 0
LeftBy t log p i d = (y : Taken) × (d ≡ taken_left t (life_in p i) y) × OnLog t log y

-- ---- what a history has of the list that a log gives

-- it takes slots: a founder, or one that has its Give
abbrev pub IsReady : Setup → Inc → Life → Type 0
IsReady t i l = (is_founder t i ≡ true) ⊎ (has_give l ≡ true)

abbrev pub is_member_of : Reading → Inc → Bool
is_member_of r o = has_inc (incs r.members) o

-- The view, the place and the open parts of a history are those of the list.
pub record AgreesWith (t : Setup) (i : Inc) (l : Life) (log : List Value) : Type 0 where
  pub view : view t l ≡ view t (listed t log)
  pub place : taken l ≡ (reading_of t log).place
  pub fresh : (o : Inc) → has_inc (reading_of t log).ever o ≡ false → open_parts l o ≡ None
  pub parts : IsReady t i l → (o : Inc) → is_member_of (reading_of t log) o ≡ true → open_parts l o ≡ open_parts (listed t log) o

-- a history that has begun with a view: that of a founder, or of one that was welcomed
abbrev pub Viewed : Setup → Inc → Life → Type 0
Viewed t i l = ((is_founder t i ≡ true) × (0 < length l)) ⊎ ((w : Welcome) × (entered l ≡ Some w))

-- with the list up to its last slot
abbrev pub AgreesAt : Setup → List Value → Past → Inc → Type 0
AgreesAt t log q i = AgreesWith t i (life_in q i) (before_slot log (suc (last_slot (life_in q i))))

-- ---- how each incarnation follows it

-- A slot that is taken holds a value that was made before, and so does one that is skipped, but for a Noop; what is left is the entry that the rules give
-- where the value is kept.
pub record TakenAs (t : Setup) (log : List Value) (p : Past) (i : Inc) (e : Entry) : Type 0 where
  pub value : value_at log e.slot ≡ Some e.value
  pub next : e.slot ≡ suc (last_slot (life_in p i))
  pub made : WasMade p e.value
  pub place : ℕ
  pub effect : Bool
  pub kept : KeptAt place effect ≡ became (reading_of t (before_slot log e.slot)) e.value
  pub is_it : e ≡ entry_of t (life_in p i) e.slot place effect e.value
  -- the entry of the list at its place, but for its verdict
  pub listed : (x : Entry) × (entry_at (listed t log) e.place ≡ Some x) × SameEntry x e

pub record SkippedAs (t : Setup) (log : List Value) (p : Past) (i : Inc) (slot : ℕ) (v : Value) : Type 0 where
  pub value : value_at log slot ≡ Some v
  pub next : slot ≡ suc (last_slot (life_in p i))
  pub skipped : became (reading_of t (before_slot log slot)) v ≡ IsSkipped
  pub made : is_noop v.what ≡ false → WasMade p v

-- its Welcome comes with the slot of its own Add, which takes effect there
pub record JoinedAs (t : Setup) (log : List Value) (i : Inc) (w : Welcome) : Type 0 where
  pub value : Value
  pub joiner : Joiner
  pub there : value_at log w.slot ≡ Some value
  pub adds : value.what ≡ Add joiner
  pub inc : joiner.inc ≡ i
  pub place : ℕ
  pub kept : KeptAt place true ≡ became (reading_of t (before_slot log w.slot)) value

-- each incarnation takes or skips the next slot after its last one; a Welcome comes with the slot of its own Add
abbrev pub Follows : Setup → List Value → Past → Inc → Did → Type 0
Follows t log p i (Took e) = TakenAs t log p i e
Follows t log p i (Skips s v) = SkippedAs t log p i s v
Follows t log p i (Enters w) = JoinedAs t log i w
Follows t log p i d = Unit {0}

-- each slot of the log was taken or skipped by some incarnation
abbrev pub NoOther : List Value → Past → Type 0
NoOther log w = (s : ℕ) (v : Value) → value_at log s ≡ Some v → (i : Inc) × (p : Past) × (((e : Entry) × (e.slot ≡ s) × DidAt w i (Took e) p) ⊎ DidAt w i (Skips s v) p)

-- A Give that is taken up was sent by one that had taken the Add; it tells of the giver's history up to there, and of the transactions that the giver knew then
-- those that the joiner lacked when it asked.
pub record GivenBy (t : Setup) (q : Past) (i : Inc) (g : Give) (cs : List Cert) : Type 0 where
  pub giver : Inc
  pub sent : Past
  pub sent_before : IsPast sent q
  pub add : Entry
  pub before : Past
  pub earlier : IsPast (Does giver (Took add) ∷ before) sent
  pub asked : Past
  pub asked_before : IsPast asked q
  pub asking : is_recovering (state (life_in asked i)) ≡ true
  pub give : g ≡ give_of t (Took add ∷ life_in before giver) (filter (λ c. nat_le c.place add.place) (known (life_in sent giver))) add.place (executed (life_in asked i))
  pub certs : cs ≡ certs_given g.txns
  pub no_extra : minus (executed (life_in q i)) g.certified ≡ []
  pub welcome : Welcome
  pub entered : entered (life_in q i) ≡ Some welcome
  pub place : add.place ≡ welcome.place
  pub ungiven : has_give (life_in q i) ≡ false

-- a slot that some incarnation took or skipped
abbrev pub IsTaken : ℕ → Past → Type 0
IsTaken s p = (i : Inc) × (q : Past) × (((e : Entry) × (e.slot ≡ s) × DidAt p i (Took e) q) ⊎ ((v : Value) × DidAt p i (Skips s v) q))

-- Each incarnation takes a part of this log, and each slot up to its last one was taken or skipped by then. (The log may go on.)
pub record LogOver (t : Setup) (w : Past) : Type 0 where
  pub log : List Value
  pub follows : AllDid (Follows t log) w
  pub reached : (q : Past) → IsPast q w → (i : Inc) (s : ℕ) → 0 < s → s ≤ last_slot (life_in q i) → IsTaken s q
  pub given : (q : Past) (i : Inc) (g : Give) (cs : List Cert) → IsPast (Does i (Restores g cs) ∷ q) w → GivenBy t q i g cs
  pub agrees : (q : Past) → IsPast q w → (i : Inc) → Viewed t i (life_in q i) → AgreesAt t log q i

-- and it is no longer
pub record OneLogOf (t : Setup) (w : Past) : Type 0 where
  pub parts : LogOver t w
  pub no_other : NoOther parts.log w

abbrev pub EveryRunHasOne : Type 0
EveryRunHasOne = (ms : List Move) (t : Setup) → (world_after ms).setup ≡ Some t → IsSetup t → OneLogOf t (world_after ms).past
