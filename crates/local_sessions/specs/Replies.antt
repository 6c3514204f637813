-- What each session call is answered, and what it does besides, by the tables of its member and where its session stands.
-- (MySQL 8.0 Reference Manual: START TRANSACTION, COMMIT, ROLLBACK; Group Replication, Single-Primary Mode and Transaction Consistency Guarantees. The
-- order of the checks is that of the rules of the group.)
use Rattle.std.specs.Prelude.{◌≡◌, ℕ, ◌-◌, ◌^◌, Bool, true, false, ◌&&◌, not, Option, Some, None, List, [], ◌∷◌, length, min, nat_lt}
use Rattle.gr_ids.specs.Names.{is_inc}
use Rattle.gr_ids.specs.declared.levels.Level.{Level}
use Rattle.gr_ids.specs.declared.levels.MemberState.{MemberState}
use Rattle.key_items.specs.declared.item.Item.{Item}
use Rattle.key_items.specs.declared.change.Change.{Change}
use Rattle.txn_forms.specs.declared.body.Txn.{Txn}
use Rattle.txn_forms.specs.declared.body.Body.TheVariants.{Txn as Writes}
use Rattle.txn_forms.specs.Bodies.{body_bytes}
use Rattle.txn_forms.specs.Parts.{most_bytes}
use Rattle.row_store.specs.Chains.{row_at, row_own}
use Rattle.row_locks.specs.Locking.{holder_beside, locked_by, session_at, without_session}
use Rattle.group_rules.specs.declared.answers.Answer.{Answer}
use Rattle.group_rules.specs.declared.answers.Answer.TheVariants.{Held, Got, Changed as IsChanged, CommittedEmpty, RolledBack, Busy, NoTransaction, NotOnline, ReadOnly, RowLocked, Killed, MemberLeft, TooLarge}
use Rattle.group_rules.specs.declared.answers.Holder.{Holder}
use Rattle.group_rules.specs.View.{is_single}
use Rattle.group_rules.specs.Life.{is_up}
use Rattle.group_rules.specs.Holds.{is_after}
use Rattle.group_rules.specs.Calls.{wants_online, misfit, items_of}
use Rattle.group_rules.specs.Rows.{fits, changed_row}
use Rattle.local_sessions.specs.declared.tables.Tables.{Tables}
use Rattle.local_sessions.specs.declared.commit_step.CommitStep.{CommitStep}
use Rattle.local_sessions.specs.declared.commit_step.CommitStep.TheVariants.{Said, Ready}
use Rattle.local_sessions.specs.Standing.{Session, Stage, Holding, Active, WasKilled, WasLeft, Asked, Asking, new_hold, changed_at, with_change, asks, with_session, without}

-- what a call does besides its answer: nothing; it ends the transaction; it holds a begin, with whether its commit waits and the state of the member; it writes
-- a row; it asks the commit
pub data Deed : Type 0 where
  Nothing : Deed
  Ends : Deed
  Holds : (after : Bool) (state : MemberState) → Deed
  Writing : (change : Change) → Deed
  Asks : Deed

pub record Reply : Type 0 where
  pub answer : CommitStep
  pub deed : Deed

abbrev pub stays : Answer → Reply
stays a = record { answer = Said a; deed = Nothing }

abbrev pub ends : Answer → Reply
ends a = record { answer = Said a; deed = Ends }

-- the sessions after the deed of one of them
abbrev pub sessions_after : Deed → ℕ → List Session → List Session
sessions_after Nothing s xs = xs
sessions_after Ends s xs = without s xs
sessions_after (Holds after state) s xs = with_session xs (new_hold s after state)
sessions_after (Writing c) s xs = changed_at s (with_change c) xs
sessions_after Asks s xs = changed_at s asks xs

-- which session holds a key after the deed
abbrev pub keys_after : Deed → ℕ → (Item → Option ℕ) → Item → Option ℕ
keys_after Ends s was j = without_session s (was j)
keys_after (Writing c) s was j = locked_by s c.item was j
keys_after d s was j = was j

-- ---- what comes before a call's own checks

-- the answer of a session whose transaction isn't active, if that is so
abbrev pub bar_at : Stage → Option Reply
bar_at Holding = Some (stays Busy)
bar_at Active = None
bar_at (WasKilled g) = Some (ends (Killed g))
bar_at WasLeft = Some (ends MemberLeft)
bar_at Asked = Some (stays Busy)
bar_at (Asking i) = Some (stays Busy)

abbrev pub bar : Option Session → Option Reply
bar None = Some (stays NoTransaction)
bar (Some x) = bar_at x.stage

abbrev pub reply_or : Option Reply → Reply → Reply
reply_or None r = r
reply_or (Some b) r = b

abbrev pub unless_barred : (Session → Reply) → Option Session → Reply
unless_barred f None = stays NoTransaction
unless_barred f (Some x) = reply_or (bar_at x.stage) (f x)

-- ---- begin

abbrev pub begin_free : Tables → Level → Reply
begin_free at v = elim (wants_online v && not (is_up at.state)) [
  | true ↦ stays (NotOnline at.state)
  | false ↦ record { answer = Said Held; deed = Holds (is_after v) at.state }
]

abbrev pub begin : Tables → Level → Option Session → Reply
begin at v None = begin_free at v
begin at v (Some x) = reply_or (bar_at x.stage) (stays Busy)

-- ---- statements

abbrev pub get : Tables → Item → Option Session → Reply
get at i o = unless_barred (λ x. stays (Got (changed_row i (row_at at.store i x.set) x.changes))) o

-- single-primary mode, and this one isn't the primary
abbrev pub is_read_only : Tables → Bool
is_read_only at = is_single at.mode && not (is_inc at.primary at.me)

-- it looks at the rows now, with the transaction's own changes
abbrev pub change_row : Tables → Change → Session → Reply
change_row at c x = elim (fits c.what (row_own at.store x.changes c.item)) [ true ↦ record { answer = Said IsChanged; deed = Writing c } | false ↦ stays (misfit c.what) ]

abbrev pub unless_locked : Tables → Change → Session → Option Holder → Reply
unless_locked at c x None = change_row at c x
unless_locked at c x (Some h) = stays (RowLocked h)

abbrev pub statement_in : Tables → Change → Session → Reply
statement_in at c x = elim (is_up x.state) [
  | false ↦ stays (NotOnline x.state)
  | true ↦ elim (is_read_only at) [
    | true ↦ stays (ReadOnly at.primary)
    | false ↦ unless_locked at c x (holder_beside at.locks x.session c.item)
  ]
]

abbrev pub statement : Tables → Change → Option Session → Reply
statement at c o = unless_barred (statement_in at c) o

-- ---- commit and rollback

-- the transaction as its commit sends it: its snapshot is the executed set of now
abbrev pub txn_of : Tables → Session → Txn
txn_of at x = record { after = x.after; snapshot = at.executed; items = items_of x.changes; changes = x.changes }

abbrev pub commit_bytes : List ℕ → Reply
commit_bytes b = elim (nat_lt most_bytes (length b)) [ true ↦ ends (TooLarge (min (length b) (2 ^ 64 - 1))) | false ↦ record { answer = Ready b; deed = Asks } ]

abbrev pub commit_changes : Tables → Session → List Change → Reply
commit_changes at x [] = ends CommittedEmpty
commit_changes at x (c ∷ cs) = elim (is_read_only at) [ true ↦ ends (ReadOnly at.primary) | false ↦ commit_bytes (body_bytes (Writes (txn_of at x))) ]

abbrev pub commit : Tables → Option Session → Reply
commit at o = unless_barred (λ x. commit_changes at x x.changes) o

abbrev pub rollback : Option Session → Reply
rollback o = unless_barred (λ x. ends RolledBack) o

abbrev pub deed_of : Option Reply → Deed
deed_of None = Nothing
deed_of (Some r) = r.deed

-- ---- what a call has done to the sessions and the tables

pub record Does (d : Deed) (s : ℕ) (old new : List Session) (was now : Tables) : Type 0 where
  pub sessions : new ≡ sessions_after d s old
  pub keys : (j : Item) → session_at now.locks.keys j ≡ keys_after d s (session_at was.locks.keys) j
  pub tables : now ≡ record was { locks = record was.locks { keys = now.locks.keys } }

abbrev pub reply_to_change : Change → Option Answer → Reply
reply_to_change c None = record { answer = Said IsChanged; deed = Writing c }
reply_to_change c (Some a) = stays a
