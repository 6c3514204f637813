-- When a run is legal: six laws over all that happened in it, newest first. A point of a run is what had happened by then.
use Rattle.std.specs.Prelude.{◌≡◌, ◌⊎◌, ℕ, suc, ◌<◌, Bool, true, false, Option, Some, None, List, [], ◌∷◌, ◌++◌, reverse, ◌==◌}
use Rattle.gr_ids.specs.Names.{inc_eq}
use Rattle.gtid_sets.specs.Sets.{Gtids, has}
use Rattle.key_items.specs.Items.{item_eq}
use Rattle.slot_values.specs.Values.{is_noop}
use Rattle.slot_values.specs.Log.{became}
use Rattle.slot_values.specs.declared.kept.Kept.TheVariants.{Skipped as IsSkipped}
use Rattle.node_rules.specs.Lists.{In}
use Rattle.group_rules.specs.Names.{Inc, Item, Change, Joiner, Level, Value, Add, Txn, Body, Writes as HasTxn, Welcome, CommittedAs}
use Rattle.group_rules.specs.View.{is_seated}
use Rattle.group_rules.specs.Events.{Did, Took, Skips, Made, Enters, Called, Begun, Answered, Life, Setup, Entry, Cert, OfflineWrite}
use Rattle.group_rules.specs.Life.{state, is_up, executed, view, taken, entry_at, certs}
use Rattle.group_rules.specs.Commit.{complete}
use Rattle.group_rules.specs.Sessions.{Call, last_call}
use Rattle.group_rules.specs.Rows.{fits, row_after, row_in, row_of}
use Rattle.group_rules.specs.Holds.{has_sync, is_eventual}
use Rattle.group_rules.specs.World.{Past, Does, Writes, Halts, life_in}
use Rattle.group_rules.specs.OneList.{listed, reading_of, value_at, before_slot, first_places}

-- at some time this was all that had happened
abbrev pub IsPast : Past → Past → Type 0
IsPast p [] = p ≡ []
IsPast p (x ∷ w) = (p ≡ x ∷ w) ⊎ IsPast p w

-- right after the point p, this incarnation did this
abbrev pub DidAt : Past → Inc → Did → Past → Type 0
DidAt w i d p = IsPast (Does i d ∷ p) w

-- ---- one ordered list

-- the last slot that it took or skipped; a founder begins before slot 1, a joiner at the slot of its Add
abbrev pub last_slot : Life → ℕ
last_slot [] = 0
last_slot (Took e ∷ l) = e.slot
last_slot (Skips t v ∷ l) = t
last_slot (Enters w ∷ l) = w.slot
last_slot (d ∷ l) = last_slot l

abbrev pub AddsInc : Inc → Option Value → Type 0
AddsInc i v = (j : Joiner) × (x : Value) × (v ≡ Some x) × (x.what ≡ Add j) × (j.inc ≡ i)

-- its origin had made it
abbrev pub WasMade : Past → Value → Type 0
WasMade p v = (holds : Option Body) × In (Does v.id.origin (Made v holds)) p

-- the entry is that of the list but for its verdict
pub record SameEntry (x e : Entry) : Type 0 where
  pub slot : x.slot ≡ e.slot
  pub value : x.value ≡ e.value
  pub holds : x.holds ≡ e.holds
  pub effect : ((t : Txn) → e.holds ≡ Some (HasTxn t) → ⊥) → x.effect ≡ e.effect

-- Some log has the value of each slot that was taken or skipped, and no other slot; what each incarnation took and skipped is what the kept list of the log
-- has there, in consecutive slots; and each value but a Noop was made by its origin at an earlier point.
pub record OneOrderedList (s : Setup) (log : List Value) (w : Past) : Type 0 where
  pub took : (i : Inc) (e : Entry) (p : Past) → DidAt w i (Took e) p → (value_at log e.slot ≡ Some e.value) × ((x : Entry) × (entry_at (listed s log) e.place ≡ Some x) × SameEntry x e)
  pub skipped : (i : Inc) (t : ℕ) (v : Value) (p : Past) → DidAt w i (Skips t v) p → (value_at log t ≡ Some v) × (became (reading_of s (before_slot log t)) v ≡ IsSkipped)
  pub no_other : (t : ℕ) (v : Value) → value_at log t ≡ Some v → (i : Inc) × (p : Past) × (((e : Entry) × (e.slot ≡ t) × DidAt w i (Took e) p) ⊎ DidAt w i (Skips t v) p)
  pub took_next : (i : Inc) (e : Entry) (p : Past) → DidAt w i (Took e) p → e.slot ≡ suc (last_slot (life_in p i))
  pub skipped_next : (i : Inc) (t : ℕ) (v : Value) (p : Past) → DidAt w i (Skips t v) p → t ≡ suc (last_slot (life_in p i))
  pub joined : (i : Inc) (x : Welcome) (p : Past) → DidAt w i (Enters x) p → AddsInc i (value_at log x.slot)
  pub took_made : (i : Inc) (e : Entry) (p : Past) → DidAt w i (Took e) p → WasMade p e.value
  pub skipped_made : (i : Inc) (t : ℕ) (v : Value) (p : Past) → DidAt w i (Skips t v) p → is_noop v.what ≡ false → WasMade p v

-- ---- verdict

-- each transaction taken has the verdict and the GTID of the scan of the whole list
abbrev pub VerdictLaw : Life → Past → Type 0
VerdictLaw k w = (i : Inc) (e : Entry) (p : Past) (t : Txn) → DidAt w i (Took e) p → e.holds ≡ Some (HasTxn t) → entry_at k e.place ≡ Some e

-- ---- begins

-- the begin of a session of i was answered with this set right after the point `begun`; its call came right after the point `called`
pub record BegunAt (w : Past) (i : Inc) (begun called : Past) (level : Level) (set : Gtids) (sync : Option ℕ) : Type 0 where
  pub session : ℕ
  pub limit : ℕ
  pub answer : DidAt w i (Begun session set sync) begun
  pub call : DidAt begun i (Called session level limit) called
  pub last : (c : Call) × (last_call (life_in begun i) session ≡ Some c) × (c.past ≡ life_in called i)

-- the set has all GTIDs certified before this place
abbrev pub ReadsAll : Life → Gtids → ℕ → Type 0
ReadsAll k set p = (c : Cert) → In c (certs k) → c.place < p → has set c.gtid ≡ true

-- ---- before

-- p is above every place that any member had taken at this point
abbrev pub IsAboveAll : Past → ℕ → Type 0
IsAboveAll p n = (i : Inc) → taken (life_in p i) < n

-- A BEFORE transaction reads all that is certified before the place of its Sync, which is above every place that any member had taken at the begin call.
abbrev pub BeforeLaw : Life → Past → Type 0
BeforeLaw k w =
    (i : Inc) (begun called : Past) (level : Level) (set : Gtids) (sync : Option ℕ) → BegunAt w i begun called level set sync → has_sync level ≡ true →
    (n : ℕ) × (sync ≡ Some n) × ReadsAll k set n × IsAboveAll called n

-- ---- after

-- at the point p, i is answered that the AFTER transaction c is committed
pub record AcknowledgedAt (k : Life) (w : Past) (i : Inc) (p : Past) (c : Cert) : Type 0 where
  pub session : ℕ
  pub answer : DidAt w i (Answered session (CommittedAs c.gtid)) p
  pub certified : In c (certs k)
  pub after : c.txn.after ≡ true

-- the entries of the list that i had taken at this point
abbrev pub taken_of : Life → Inc → Past → Life
taken_of k i p = first_places k (taken (life_in p i))

-- Then it is complete by the entries that the member had taken; and a later begin call, at a member that is ONLINE by its own marks and in the view after
-- these entries, reads it.
abbrev pub AfterLaw : Setup → Life → Past → Type 0
AfterLaw s k w =
    (i : Inc) (p : Past) (c : Cert) → (a : AcknowledgedAt k w i p c) →
    (complete s (taken_of k i p) c ≡ true)
    × ((m : Inc) (begun called : Past) (level : Level) (set : Gtids) (sync : Option ℕ) → BegunAt w m begun called level set sync →
    IsPast (Does i (Answered a.session (CommittedAs c.gtid)) ∷ p) called → is_up (state (life_in called m)) ≡ true → is_seated (view s (taken_of k i p)) m ≡ true →
    has set c.gtid ≡ true)

-- ---- failover

-- A begin of any level but EVENTUAL, at a member that is ONLINE by its own marks and primary by the entries it has taken, reads all that is certified before
-- the place of that election.
abbrev pub FailoverLaw : Setup → Life → Past → Type 0
FailoverLaw s k w =
    (i : Inc) (begun called : Past) (level : Level) (set : Gtids) (sync : Option ℕ) → BegunAt w i begun called level set sync → is_eventual level ≡ false →
    is_up (state (life_in called i)) ≡ true → (view s (life_in called i)).primary ≡ Some i → ReadsAll k set (view s (life_in called i)).elected

-- ---- rows

-- the incarnation is its server's last one, and has not stopped
abbrev pub runs_in : Past → Inc → Bool
runs_in [] i = false
runs_in (Does j d ∷ p) i = elim (j.server == i.server) [ true ↦ inc_eq j i | false ↦ runs_in p i ]
runs_in (Halts n ∷ p) i = elim (n == i.server) [ true ↦ false | false ↦ runs_in p i ]
runs_in (Writes n x ∷ p) i = runs_in p i

-- the offline writes of a server, oldest first
abbrev pub writes_in : Past → ℕ → List OfflineWrite
writes_in [] n = []
writes_in (Writes m x ∷ p) n = elim (m == n) [ true ↦ writes_in p n ++ x ∷ [] | false ↦ writes_in p n ]
writes_in (h ∷ p) n = writes_in p n

abbrev pub Table : Type 0
Table = Item → Option (List ℕ)

abbrev pub with_change : Table → Change → Table
with_change was c i = elim (item_eq c.item i) [ true ↦ row_after c.what | false ↦ was i ]

abbrev pub with_changes : Table → List Change → Table
with_changes was [] = was
with_changes was (c ∷ cs) = with_changes (with_change was c) cs

-- the need of each change is met: an insert finds no row, an update or delete finds one
abbrev pub AllFit : Table → List Change → Type 0
AllFit was [] = Unit {0}
AllFit was (c ∷ cs) = (fits c.what (was c.item) ≡ true) × AllFit (with_change was c) cs

-- the rows of those transactions, newest first, that are in the set
abbrev pub table_of : List Cert → Gtids → Table
table_of [] e i = None
table_of (c ∷ cs) e i = elim (has e c.gtid) [ true ↦ with_changes (table_of cs e) c.txn.changes i | false ↦ table_of cs e i ]

-- no change of theirs is refused
abbrev pub NoneRefused : List Cert → Gtids → Type 0
NoneRefused [] e = Unit {0}
NoneRefused (c ∷ cs) e = (has e c.gtid ≡ true → AllFit (table_of cs e) c.txn.changes) × NoneRefused cs e

-- the rows of every running incarnation are those of its executed set, over the transactions of the list
pub record RowsAt (k : Life) (p : Past) (i : Inc) : Type 0 where
  pub rows : (x : Item) → row_of (life_in p i) (executed (life_in p i)) x ≡ row_in (reverse (certs k)) (writes_in p i.server) (executed (life_in p i)) x
  pub fits : NoneRefused (certs k) (executed (life_in p i))

abbrev pub RowsLaw : Life → Past → Type 0
RowsLaw k w = (p : Past) (i : Inc) → IsPast p w → runs_in p i ≡ true → RowsAt k p i

-- ---- all of them

pub record IsLegal (s : Setup) (w : Past) : Type 0 where
  pub log : List Value
  pub order : OneOrderedList s log w
  pub verdict : VerdictLaw (listed s log) w
  pub before : BeforeLaw (listed s log) w
  pub after : AfterLaw s (listed s log) w
  pub failover : FailoverLaw s (listed s log) w
  pub rows : RowsLaw (listed s log) w
