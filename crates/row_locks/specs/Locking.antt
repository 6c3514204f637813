-- Row locks: which session holds a key, or which places that are done. (MySQL 8.0 Reference Manual, InnoDB Locking: a record lock has one owner, and
-- lasts to the end of its transaction. That a place takes over the keys of its transaction once it is done is this project's own.)
use Rattle.std.specs.Prelude.{◌≡◌, ℕ, Bool, true, ◌&&◌, not, Option, Some, None, List, [], ◌∷◌, filter, fold, nat_lt, nat_le, ◌==◌, if◌then◌else◌}
use Rattle.key_items.specs.declared.item.Item.{Item}
use Rattle.key_items.specs.Items.{item_eq, has_item}
use Rattle.group_rules.specs.declared.answers.Holder.{Holder}
use Rattle.group_rules.specs.declared.answers.Holder.TheVariants.{Session as BySession, Place as ByPlace}
use Rattle.group_rules.specs.Keys.{or_holder}
use Rattle.group_rules.specs.Sessions.{with_session}
pub use Rattle.row_locks.specs.declared.done.DonePlace.{DonePlace}
use Rattle.row_locks.specs.declared.fault.LockFault.{LockFault}
use Rattle.row_locks.specs.declared.fault.LockFault.TheVariants.{Locked as LockedBy, Memory as NoMemory}

-- a key that a session holds
pub record SessionKey : Type 0 where
  pub item : Item
  pub session : ℕ

-- the keys of sessions, and the places that are done, with the keys that they took over
pub record Locked : Type 0 where
  pub keys : List SessionKey
  pub places : List DonePlace

-- ---- who holds a key

abbrev pub session_at : List SessionKey → Item → Option ℕ
session_at [] i = None
session_at (k ∷ ks) i = if item_eq i k.item then Some k.session else session_at ks i

-- the first of these places that holds the key
abbrev pub place_at : List DonePlace → Item → Option Holder
place_at [] i = None
place_at (d ∷ ds) i = if has_item d.items i then Some (ByPlace d.place d.gtid) else place_at ds i

abbrev pub other_session : ℕ → Option ℕ → Option Holder
other_session s None = None
other_session s (Some t) = if t == s then None else Some (BySession t)

-- the holder of a key, other than this session
abbrev pub holder_beside : Locked → ℕ → Item → Option Holder
holder_beside l s i = or_holder (place_at l.places i) (other_session s (session_at l.keys i))

-- why the session doesn't get the key: this one holds it
abbrev pub IsCause : Locked → ℕ → Item → LockFault → Type 0
IsCause l s i (LockedBy h) = holder_beside l s i ≡ Some h
IsCause l s i NoMemory = Unit {0}

-- ---- what the calls change

-- the key is the session's
abbrev pub locked_by : ℕ → Item → (Item → Option ℕ) → Item → Option ℕ
locked_by s i was j = if item_eq i j then Some s else was j

-- the session holds nothing
abbrev pub without_session : ℕ → Option ℕ → Option ℕ
without_session s None = None
without_session s (Some t) = if t == s then None else Some t

-- no session holds one of these keys
abbrev pub taken_over : List Item → (Item → Option ℕ) → Item → Option ℕ
taken_over is was j = if has_item is j then None else was j

abbrev pub with_loser : List ℕ → Option ℕ → List ℕ
with_loser ss None = ss
with_loser ss (Some s) = with_session ss s

-- the sessions that hold one of these keys, ascending
abbrev pub holders_of : List SessionKey → List Item → List ℕ
holders_of ks is = fold (λ ss i. with_loser ss (session_at ks i)) [] is

-- a place put among the others, ascending
abbrev pub with_place : List DonePlace → DonePlace → List DonePlace
with_place [] d = d ∷ []
with_place (x ∷ xs) d = if nat_lt d.place x.place then d ∷ x ∷ xs else x ∷ with_place xs d

abbrev pub without_place : ℕ → List DonePlace → List DonePlace
without_place p ds = filter (λ d. not (d.place == p)) ds

-- each place is at most the next one, so the first that holds a key is the least
abbrev pub ascend : List DonePlace → Bool
ascend [] = true
ascend (d ∷ []) = true
ascend (d ∷ e ∷ es) = nat_le d.place e.place && ascend (e ∷ es)
