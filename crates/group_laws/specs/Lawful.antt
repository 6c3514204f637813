-- A life that keeps the rules of a member, as far as the laws of the group rest on them.
use Rattle.std.specs.Prelude.{◌≡◌, ◌⊎◌, ℕ, suc, ◌<◌, ◌≤◌, Bool, true, false, cond, List, [], ◌∷◌, Some, length, nat_le}
use Rattle.std.specs.List.{list_any}
use Rattle.group_rules.specs.Events.{Setup}
use Rattle.group_rules.specs.Rows.{fits}
use Rattle.group_rules.specs.Holds.{has_sync, is_eventual}
use Rattle.group_laws.specs.Lists.{Mem, IsPast}
use Rattle.group_laws.specs.Names.{Inc, Gtid, Gtids, has, Item, item_eq, Joiner, Txn, Change}
use Rattle.group_laws.specs.Entries.{Body, Write, Executed, Online, Joins, Prepared, Value, Placed, Cert, certified}
use Rattle.group_laws.specs.View.{Gone, standing, active, before_online, last_kept}
use Rattle.group_laws.specs.Primary.{view}
use Rattle.group_laws.specs.Verdict.{kept_outcome, writes}
use Rattle.group_laws.specs.Table.{Rows, applied, rows_of, Covers}
use Rattle.group_laws.specs.Life.{Did, Started, Given, Made, Took, Finished, Committed, Called, Begun, Acked, Fell, Life, marked, taken, executed, is_fall, finishes, founder, ready, online, last_made, Call, last_call, last_begun, Changed, Asked, Ended, open_of}

-- ---- AFTER transactions

-- the list as it was after its first `n` places
abbrev pub upto : {A : Type 0} → ℕ → List A → List A
upto n [] = []
upto n (x ∷ xs) = cond (nat_le (suc (length xs)) n) (x ∷ xs) (upto n xs)

-- a member that the transaction requires: one that is ONLINE at its place
abbrev pub Requires : Setup → List Value → Cert → Inc → Type 0
Requires r p c m = active r (upto c.place p) m ≡ true

abbrev pub HasPrepared : List Value → Inc → Gtid → Type 0
HasPrepared p m g = (v : Value) × Mem v p × (v.origin ≡ m) × (v.body ≡ Prepared g)

-- after these entries each required member is its origin, or has a Prepared entry, or is gone
abbrev pub Complete : Setup → List Value → Cert → Type 0
Complete r p c = (m : Inc) → Requires r p c m → (m ≡ c.origin) ⊎ (HasPrepared p m c.gtid ⊎ (standing r p m ≡ Gone))

-- Done, local or committed
abbrev pub Settled : Life → Inc → Cert → Type 0
Settled l m c = (list_any (finishes c.place) l ≡ true) ⊎ ((c.origin ≡ m) ⊎ (executed l c.gtid ≡ true))

abbrev pub IsPrepared : Setup → Life → Inc → Cert → Type 0
IsPrepared r l m c =
    Mem c (certified r (marked l)) × ((c.origin ≡ m) ⊎ ((d : Cert) → Mem d (certified r (marked l)) → d.place ≤ c.place → Settled l m d))

-- ---- begins

-- each certified one up to this place is executed
abbrev pub HasAll : Setup → List Placed → ℕ → Life → Type 0
HasAll r m n l = (d : Cert) → Mem d (certified r m) → d.place ≤ n → executed l d.gtid ≡ true

-- the place after this front holds the Sync value of the call, and all certified before it is executed
pub record Synced (r : Setup) (l : Life) (m : Inc) (c : Call) : Type 0 where
  pub value : Value
  pub front : List Value
  pub there : IsPast (value ∷ front) (taken l)
  pub origin : value.origin ≡ m
  pub number : value.number ≡ c.sync
  pub all : HasAll r (marked l) (length front) l

-- what holds where a begin is answered Begun; `l` is what the incarnation had done by then
pub record Holds (r : Setup) (l : Life) (m : Inc) (c : Call) : Type 0 where
  pub after : list_any is_fall c.past ≡ false → (d : Cert) → d.txn.after ≡ true → IsPrepared r c.past m d → executed l d.gtid ≡ true
  pub before : has_sync c.level ≡ true → Synced r l m c
  pub primary : online r m c.past ≡ true → is_eventual c.level ≡ false → (view r (taken c.past)).primary ≡ Some m → (d : Cert) → Mem d (certified r (marked c.past)) → d.place < (view r (taken c.past)).elected → executed l d.gtid ≡ true
  pub joined : online r m c.past ≡ true → HasAll r (marked c.past) (before_online r (taken c.past) m) l

-- ---- own values

-- the set is the executed set of that moment
abbrev pub IsNow : Life → Gtids → Type 0
IsNow l s = (g : Gtid) → has s g ≡ executed l g

-- the transaction of a session that was begun, the begin call having come while ONLINE
pub record InSession (r : Setup) (m : Inc) (l : Life) : Type 0 where
  pub session : ℕ
  pub begun : Life
  pub call : Call
  pub is_begun : last_begun l session ≡ Some begun
  pub is_call : last_call begun session ≡ Some call
  pub was_online : online r m call.past ≡ true

-- the rows of what it has executed now
abbrev pub rows_now : Setup → Life → Rows
rows_now r l = rows_of (certified r (marked l)) (executed l)

abbrev pub is_done : Life → Cert → Bool
is_done l c = list_any (finishes c.place) l

-- an own transaction is not taken yet, or taken positive and not committed
abbrev pub Waits : Setup → Inc → Life → Value → Type 0
Waits r m l v =
    (last_kept (taken l) m < v.number) ⊎ ((c : Cert) × Mem c (certified r (marked l)) × (c.id ≡ v.number) × (c.origin ≡ m) × (executed l c.gtid ≡ false))

-- a Done place took the key over after this past
abbrev pub Lost : Setup → Life → Life → Item → Type 0
Lost r l past i = (d : Cert) × Mem d (certified r (marked l)) × (writes d i ≡ true) × (is_done l d ≡ true) × (executed past d.gtid ≡ false)

-- a statement is answered Changed only where no other session and no Done place holds the key, and the need of its change is met
pub record LawfulChange (r : Setup) (m : Inc) (l : Life) (s : ℕ) (ch : Change) : Type 0 where
  pub changes : List Change
  pub is_open : open_of r l s ≡ Some changes
  pub is_ready : ready r m l ≡ true
  pub need : fits ch.what (applied changes (rows_now r l) ch.item) ≡ true
  pub no_place : (c : Cert) → Mem c (certified r (marked l)) → writes c ch.item ≡ true → is_done l c ≡ true → executed l c.gtid ≡ true
  pub no_open : (t : ℕ) (ds : List Change) → (t ≡ s → ⊥) → open_of r l t ≡ Some ds → (dh : Change) → Mem dh ds → item_eq dh.item ch.item ≡ false
  pub no_asked : (v : Value) (t : Txn) (past : Life) → IsPast (Made v ∷ past) l → v.body ≡ Write t → Mem ch.item t.items → Waits r m l v → Lost r l past ch.item

-- the transaction of the session whose commit was just asked
pub record Asks (r : Setup) (l : Life) (s : ℕ) (t : Txn) : Type 0 where
  pub past : Life
  pub asked : l ≡ Asked s ∷ past
  pub changes : open_of r past s ≡ Some t.changes
  pub covers : Covers t
  pub keys : (i : Item) → Mem i t.items → (ch : Change) × Mem ch t.changes × (ch.item ≡ i)

-- a queued place is of another origin
abbrev pub LawfulFinish : Setup → Inc → Life → ℕ → Type 0
LawfulFinish r m l p = (c : Cert) × Mem c (certified r (marked l)) × (c.place ≡ p) × (c.origin ≡ m → ⊥)

abbrev pub LawfulBody : Setup → Inc → Life → Body → Type 0
LawfulBody r m l (Write t) = IsNow l t.snapshot × ((ss : InSession r m l) × Asks r l ss.session t)
LawfulBody r m l (Executed s) = IsNow l s
LawfulBody r m l (Online s) = IsNow l s
LawfulBody r m l (Prepared g) = (c : Cert) × (c.gtid ≡ g) × IsPrepared r l m c
LawfulBody r m l _ = Unit {0}

-- ---- what a mark asks of what the incarnation had done before

pub record LawfulMade (r : Setup) (m : Inc) (l : Life) (v : Value) : Type 0 where
  pub own : v.origin ≡ m
  pub next : v.number ≡ suc (last_made l)
  pub body : LawfulBody r m l v.body

pub record LawfulTook (r : Setup) (m : Inc) (l : Life) (e : Placed) : Type 0 where
  pub is_ready : ready r m l ≡ true
  pub outcome : e.outcome ≡ kept_outcome r (marked l) e.value

pub record LawfulGiven (r : Setup) (m : Inc) (l : Life) (base : List Placed) : Type 0 where
  pub fresh : ready r m l ≡ false
  pub add : (e : Placed) × (rest : List Placed) × (j : Joiner) × (base ≡ e ∷ rest) × (e.value.body ≡ Joins j) × (j.inc ≡ m)
  pub no_extra : (g : Gtid) → executed l g ≡ true → (c : Cert) × Mem c (certified r base) × (c.gtid ≡ g)

pub record LawfulCommit (r : Setup) (m : Inc) (l : Life) (g : Gtid) : Type 0 where
  pub cert : Cert
  pub here : Mem cert (certified r (marked l))
  pub is_it : cert.gtid ≡ g
  pub uncommitted : executed l g ≡ false
  pub done : (cert.origin ≡ m → ⊥) → is_done l cert ≡ true
  pub order : (cert.origin ≡ m) ⊎ ((d : Cert) → Mem d (certified r (marked l)) → d.place < cert.place → executed l d.gtid ≡ true)
  pub complete : cert.txn.after ≡ true → (cert.origin ≡ m) ⊎ Requires r (taken l) cert m → Complete r (taken l) cert

-- the answer Committed follows the own mark Committed, of a transaction of its own
pub record LawfulAck (r : Setup) (m : Inc) (l : Life) (g : Gtid) : Type 0 where
  pub past : Life
  pub mark : IsPast (Committed g ∷ past) l
  pub local : (c : Cert) → Mem c (certified r (marked past)) → c.gtid ≡ g → c.origin ≡ m

abbrev pub LawfulDid : Setup → Inc → Life → Did → Type 0
LawfulDid r m l (Started s) = (l ≡ []) × (founder r m ≡ false)
LawfulDid r m l (Given base) = LawfulGiven r m l base
LawfulDid r m l (Made v) = LawfulMade r m l v
LawfulDid r m l (Took e) = LawfulTook r m l e
LawfulDid r m l (Finished p) = LawfulFinish r m l p
LawfulDid r m l (Changed s ch) = LawfulChange r m l s ch
LawfulDid r m l (Asked s) = Unit {0}
LawfulDid r m l (Ended s) = Unit {0}
LawfulDid r m l (Committed g) = LawfulCommit r m l g
-- the Sync of the call is the next own value
LawfulDid r m l (Called s level sync) = has_sync level ≡ true → sync ≡ suc (last_made l)
LawfulDid r m l (Begun s) = (c : Call) × (last_call l s ≡ Some c) × Holds r l m c
LawfulDid r m l (Acked g) = LawfulAck r m l g
LawfulDid r m l Fell = Unit {0}

abbrev pub LawfulLife : Setup → Inc → Life → Type 0
LawfulLife r m [] = Unit {0}
LawfulLife r m (d ∷ l) = LawfulDid r m l d × LawfulLife r m l
