-- What a begin waits for.
-- (MySQL 8.0 Reference Manual, Group Replication: Transaction Consistency Guarantees; the exact conditions are this project's own.)
use Rattle.std.specs.Prelude.{ℕ, suc, Bool, true, false, ◌&&◌, ◌||◌, not, Option, Some, None, List, [], filter, map, nat_lt}
use Rattle.std.specs.List.{list_any, list_all}
use Rattle.gr_ids.specs.Names.{is_inc, gtid_eq}
use Rattle.group_rules.specs.Names.{Inc, ValueId, Gtid, Level, Eventual, Before, After, BeforeAndAfter}
use Rattle.group_rules.specs.View.{View, is_single}
use Rattle.group_rules.specs.Events.{Life, Setup, Cert}
use Rattle.group_rules.specs.Life.{state, is_up, is_recovering, view, own_place, online_place, last_made}
use Rattle.group_rules.specs.Queue.{pending}
use Rattle.group_rules.specs.Commit.{is_prepared}
use Rattle.group_rules.specs.Sessions.{Call}
pub use Rattle.group_rules.specs.declared.holds.Conditions.{Conditions}
pub use Rattle.group_rules.specs.declared.holds.Pending.{Pending}

-- ---- levels

abbrev pub is_eventual : Level → Bool
is_eventual Eventual = true
is_eventual _ = false

-- its begin sends a Sync
abbrev pub has_sync : Level → Bool
has_sync Before = true
has_sync BeforeAndAfter = true
has_sync _ = false

-- its commit waits until it is complete
abbrev pub is_after : Level → Bool
is_after After = true
is_after BeforeAndAfter = true
is_after _ = false

-- ---- the conditions of a begin, fixed at its call

-- while ONLINE or RECOVERING: every AFTER transaction that is prepared and uncommitted here
abbrev pub after_then : Inc → Life → List Gtid
after_then me past = elim (is_up (state past) || is_recovering (state past)) [ false ↦ [] | true ↦ map {A = Cert} (λ c. c.gtid) (filter (λ c. c.txn.after && is_prepared past me c) (pending past)) ]

-- at the BEFORE levels: the Sync that the begin sends, which is the next own value
abbrev pub sync_then : Inc → Level → Life → Option ValueId
sync_then me v past = elim (has_sync v) [ true ↦ Some (record { origin = me; number = suc (last_made past) }) | false ↦ None ]

abbrev pub elected_in : View → Inc → Option ℕ
elected_in w me = elim (is_single w.mode && is_inc w.primary me) [ true ↦ Some w.elected | false ↦ None ]

-- while ONLINE and primary, at any level but EVENTUAL: the place of the election
abbrev pub elected_then : Setup → Inc → Level → Life → Option ℕ
elected_then s me v past = elim (is_up (state past) && not (is_eventual v)) [ true ↦ elected_in (view s past) me | false ↦ None ]

-- while ONLINE, at an incarnation that joined: the place of its own Online entry
abbrev pub online_then : Inc → Life → Option ℕ
online_then me past = elim (is_up (state past)) [ true ↦ online_place past me | false ↦ None ]

-- the conditions of a begin of this level, `past` being the history before its call
abbrev pub conditions : Setup → Inc → Level → Life → Conditions
conditions s me v past = record { after = after_then me past; sync = sync_then me v past; elected = elected_then s me v past; online = online_then me past }

-- ---- whether they hold, by what is pending

abbrev pub standing_of : Cert → Pending
standing_of c = record { place = c.place; gtid = c.gtid }

-- those that are pending now, by ascending place
abbrev pub standing : Life → List Pending
standing l = map standing_of (pending l)

abbrev pub is_pending : List Pending → Gtid → Bool
is_pending xs g = list_any (λ x. gtid_eq x.gtid g) xs

-- no place below this one is pending
abbrev pub is_clear : List Pending → ℕ → Bool
is_clear xs p = list_all (λ x. not (nat_lt x.place p)) xs

abbrev pub is_clear_at : List Pending → Option ℕ → Bool
is_clear_at xs None = true
is_clear_at xs (Some p) = is_clear xs p

-- where the Sync isn't taken, this doesn't hold
abbrev pub is_synced : List Pending → Option ValueId → Option ℕ → Bool
is_synced xs None p = true
is_synced xs (Some i) None = false
is_synced xs (Some i) (Some p) = is_clear xs p

-- `sync_place` is the place of the Sync, if it is taken
abbrev pub is_met : Conditions → Option ℕ → List Pending → Bool
is_met x sync_place xs =
    (list_all (λ g. not (is_pending xs g)) x.after && is_synced xs x.sync sync_place)
    && (is_clear_at xs x.elected && is_clear_at xs x.online)

abbrev pub sync_place : Inc → Option ValueId → Life → Option ℕ
sync_place me None l = None
sync_place me (Some i) l = own_place l me i.number

-- all conditions of a held begin hold now
abbrev pub is_released : Setup → Inc → Call → Life → Bool
is_released s me c l = let x = conditions s me c.level c.past in is_met x (sync_place me x.sync l) (standing l)

-- the place of the Sync of a begin
abbrev pub sync_told : Inc → Call → Life → Option ℕ
sync_told me c l = sync_place me (sync_then me c.level c.past) l
