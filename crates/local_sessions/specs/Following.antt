-- How the sessions of a member, and the tables that they read and write, stand for a history of the group's rules.
use Rattle.std.specs.Prelude.{◌≡◌, ◌≤◌, is_some, ℕ, Bool, true, false, Option, Some, None, List, ◌==◌, IfSome, [], ◌∷◌, ◌&&◌, filter, map, nat_lt}
use Rattle.gr_ids.specs.Names.{id_eq}
use Rattle.gr_ids.specs.declared.names.Gtid.{Gtid}
use Rattle.gr_ids.specs.declared.names.ValueId.{ValueId}
use Rattle.key_items.specs.declared.item.Item.{Item}
use Rattle.gr_ids.specs.declared.levels.MemberState.TheVariants.{Error, Offline, Online, Recovering}
use Rattle.group_rules.specs.Events.{AskFails, AsksCommit, Answered, Begun, Called, Came, Cert, Changed, Committed, Did, Done, Ends, Enters, Founds, Gave, Is, Life, Made, Replied, Restores, Skips, Starts, Took}
use Rattle.group_rules.specs.Life.{executed, last_made, state, view}
use Rattle.group_rules.specs.Queue.{is_done, queue}
use Rattle.group_rules.specs.Member.{Member}
use Rattle.group_rules.specs.Sessions.{Phase, Free as IsFree, Holding as IsHolding, Active as IsActive, Asking as IsAsking, begun_set, changes, is_active, is_holding, last_call, phase, sessions}
use Rattle.group_rules.specs.Keys.{holds_key, keeps_key, killed, place_holder, was_left}
use Rattle.group_rules.specs.Rows.{row_of}
use Rattle.group_rules.specs.Calls.{is_after_call, state_then}
use Rattle.row_locks.specs.declared.done.DonePlace.{DonePlace}
use Rattle.row_locks.specs.Locking.{Locked, place_at, session_at}
use Rattle.row_store.specs.Chains.{row_at, row_now}
use Rattle.local_sessions.specs.declared.tables.Tables.{Tables}
use Rattle.local_sessions.specs.Standing.{Session, Stage, Holding, Active, WasKilled, WasLeft, Asked, Asking, session_in, stage_of}
use Rattle.local_sessions.specs.Others.{has_session}

-- ---- sessions

abbrev pub stage_by : Phase → Option Stage
stage_by IsFree = None
stage_by IsHolding = Some Holding
stage_by IsActive = Some Active
stage_by (IsAsking i) = Some (Asking i)

-- a transaction that was killed, or left, waits for its next call
abbrev pub stage_from : Option Gtid → Bool → Phase → Option Stage
stage_from (Some g) w p = Some (WasKilled g)
stage_from None true p = Some WasLeft
stage_from None false p = stage_by p

-- it was left, and is active: between ERROR and their last answers, a hold and a transaction whose commit is asked stand as before
abbrev pub is_left : Life → ℕ → Bool
is_left l s = was_left l s && is_active (phase l s)

abbrev pub stage_in : Life → ℕ → Option Stage
stage_in l s = stage_from (killed l s) (is_left l s) (phase l s)

-- each transaction that was left is active: those that weren't have been answered
abbrev pub LeftActive : Life → Type 0
LeftActive l = (s : ℕ) → was_left l s ≡ true → is_active (phase l s) ≡ true

-- its changes are those of its history
abbrev pub has_changes : Stage → Bool
has_changes Holding = true
has_changes Active = true
has_changes (WasKilled g) = false
has_changes WasLeft = false
has_changes Asked = false
has_changes (Asking i) = false

-- the session's transaction is that of its history
pub record Follows (o : Option Session) (l : Life) (s : ℕ) : Type 0 where
  pub stage : stage_of o ≡ stage_in l s
  pub after : IfSome o (λ x. x.after ≡ is_after_call (last_call l s))
  pub state : IfSome o (λ x. x.state ≡ state_then (last_call l s))
  pub set : IfSome o (λ x. x.stage ≡ Active → x.set ≡ begun_set l s)
  pub changes : IfSome o (λ x. has_changes x.stage ≡ true → x.changes ≡ changes l s)

-- each session's is
abbrev pub StandFor : List Session → Life → Type 0
StandFor xs l = (s : ℕ) → Follows (session_in xs s) l s

-- ---- locks

abbrev pub is_free : Phase → Bool
is_free IsFree = true
is_free IsHolding = false
is_free IsActive = false
is_free (IsAsking i) = false

abbrev pub is_holder : Option ℕ → ℕ → Bool
is_holder None s = false
is_holder (Some t) s = t == s

-- the session waits for the value
abbrev pub asks_as : ValueId → Phase → Bool
asks_as i IsFree = false
asks_as i IsHolding = false
asks_as i IsActive = false
asks_as i (IsAsking j) = id_eq j i

-- each value is waited for by one session at most, and was made
pub record AsksOnce (l : Life) : Type 0 where
  pub one : (i : ValueId) (s t : ℕ) → asks_as i (phase l s) ≡ true → asks_as i (phase l t) ≡ true → t ≡ s
  pub made : (i : ValueId) (s : ℕ) → asks_as i (phase l s) ≡ true → i.number ≤ last_made l

-- who holds which key is what the history says; a session that has a transaction has begun; one that was killed is active in the rules
-- still; and a begin that is held holds no key
pub record LocksOf (locks : Locked) (l : Life) : Type 0 where
  pub keys : (i : Item) (s : ℕ) → is_holder (session_at locks.keys i) s ≡ holds_key l i s
  pub called : (s : ℕ) → is_free (phase l s) ≡ false → has_session (sessions l) s ≡ true
  pub dead : (s : ℕ) → is_some (killed l s) ≡ true → is_active (phase l s) ≡ true
  pub held : (s : ℕ) (i : Item) → is_holding (phase l s) ≡ true → keeps_key l s i ≡ false

-- ---- tables

-- what is executed, the state, the mode and the primary; the rows now, and those of the sets that active transactions read; the keys
pub record TablesOf (at : Tables) (a : Member) : Type 0 where
  pub me : at.me ≡ a.me.inc
  pub set : at.executed ≡ executed a.life
  pub own_state : at.state ≡ state a.life
  pub mode : at.mode ≡ (view a.setup a.life).mode
  pub primary : at.primary ≡ (view a.setup a.life).primary
  pub rows_now : (i : Item) → row_now at.store i ≡ row_of a.life (executed a.life) i
  pub rows_seen : (s : ℕ) (i : Item) → is_active (phase a.life s) ≡ true → row_at at.store i (begun_set a.life s) ≡ row_of a.life (begun_set a.life s) i
  pub places : (i : Item) → place_at at.locks.places i ≡ place_holder a.life i (queue a.life a.me.inc)
  pub locks : LocksOf at.locks a.life

-- ---- what changes where a session's transaction stands

-- a begin, a change, a commit that is asked, an end, a place that is done, ERROR
abbrev pub touches : Did → Bool
touches Founds = false
touches (Starts d) = false
touches (Came e) = false
touches (Made v b) = false
touches (Took e) = false
touches (Skips t v) = false
touches (Done p) = true
touches (Committed g) = false
touches (Is Error c) = true
touches (Is Offline c) = false
touches (Is Recovering c) = false
touches (Is Online c) = false
touches (Gave p n) = false
touches (Answered s x) = false
touches (Begun s e y) = true
touches (Changed s c) = true
touches (Replied r) = false
touches (Called s v w) = true
touches (AsksCommit s i) = true
touches (Ends s) = true
touches (Enters w) = false
touches (Restores g cs) = false
touches AskFails = false

-- ---- places that are done

-- a place becomes done
abbrev pub does_place : Did → Bool
does_place Founds = false
does_place (Starts d) = false
does_place (Came e) = false
does_place (Made v b) = false
does_place (Took e) = false
does_place (Skips t v) = false
does_place (Done p) = true
does_place (Committed g) = false
does_place (Is s c) = false
does_place (Gave p n) = false
does_place (Answered s x) = false
does_place (Begun s e y) = false
does_place (Changed s c) = false
does_place (Replied r) = false
does_place (Called s v w) = false
does_place (AsksCommit s i) = false
does_place (Ends s) = false
does_place (Enters w) = false
does_place (Restores g cs) = false
does_place AskFails = false

abbrev pub place_of : Cert → DonePlace
place_of c = record { place = c.place; gtid = c.gtid; items = c.txn.items }

-- the places that are done, of those that are queued
abbrev pub done_places : Life → List Cert → List DonePlace
done_places l cs = map place_of (filter (λ c. is_done l c.place) cs)

-- each is above the one before it
abbrev pub rise : List Cert → Bool
rise [] = true
rise (c ∷ []) = true
rise (c ∷ d ∷ ds) = nat_lt c.place d.place && rise (d ∷ ds)
