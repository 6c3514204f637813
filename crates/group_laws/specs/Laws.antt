-- The laws of the group: what every run keeps.
use Rattle.std.specs.Prelude.{◌≡◌, ℕ, ◌<◌, ◌≤◌, Bool, true, false, List, [], ◌∷◌, length, Some}
use Rattle.group_rules.specs.Events.{Setup}
use Rattle.group_rules.specs.Holds.{has_sync, is_eventual}
use Rattle.group_laws.specs.Lists.{Mem, IsPast}
use Rattle.group_laws.specs.Names.{Inc, Gtid, Item, Level}
use Rattle.group_laws.specs.Entries.{Value, Placed, Cert, certified}
use Rattle.group_laws.specs.Verdict.{writes, scan}
use Rattle.group_laws.specs.Fresh.{Fresh}
use Rattle.group_laws.specs.View.{member}
use Rattle.group_laws.specs.Primary.{view}
use Rattle.group_laws.specs.Life.{Given, Begun, Acked, Called, marked, taken, executed, online, last_call}
use Rattle.group_laws.specs.Lawful.{upto, Complete}
use Rattle.group_laws.specs.World.{Does, World, life, owned, runs, stored, offline_over}
use Rattle.group_laws.specs.Table.{rows_of, NoneRefused}

-- each transaction of the list is fresh
abbrev pub FreshList : Setup → List Value → Type 0
FreshList r [] = Unit {0}
FreshList r (v ∷ p) = Fresh r (scan r p) v × FreshList r p

-- both write one item
pub record Common (c d : Cert) : Type 0 where
  pub item : Item
  pub first : writes c item ≡ true
  pub second : writes d item ≡ true

-- with a transaction the set has all earlier ones that write an item of it
abbrev pub Closed : Setup → List Value → (Gtid → Bool) → Type 0
Closed r k e =
    (c d : Cert) → Mem c (certified r (scan r k)) → Mem d (certified r (scan r k)) → c.place < d.place → Common c d → e d.gtid ≡ true → e c.gtid ≡ true

-- ---- the laws

-- each transaction that an incarnation has taken or was given is fresh
abbrev pub AllFresh : Setup → World → Type 0
AllFresh r w = (m : Inc) → FreshList r (taken (life w m))

-- each incarnation gave the verdicts and GTIDs of the scan of the whole list
abbrev pub SameVerdicts : Setup → List Value → World → Type 0
SameVerdicts r k w = (m : Inc) → IsPast (marked (life w m)) (scan r k)

-- a begin of `m` was answered, `begun` being what had happened by then, and `called` what had at its call
pub record WasBegun (w : World) (m : Inc) (begun : World) (called : World) (level : Level) : Type 0 where
  pub session : ℕ
  pub sync : ℕ
  pub mark : IsPast (Does m (Begun session) ∷ begun) w
  pub call : IsPast (Does m (Called session level sync) ∷ called) begun
  pub last : last_call (life begun m) session ≡ Some (record { level = level; sync = sync; past = life called m })

-- the place of its Sync is above all that any member had taken at the call, and the begin reads all that is certified before it
pub record ReadsBefore (r : Setup) (k : List Value) (m : Inc) (begun : World) (called : World) (n : ℕ) : Type 0 where
  pub sync : Value
  pub front : List Value
  pub placed : IsPast (sync ∷ front) k
  pub origin : sync.origin ≡ m
  pub number : sync.number ≡ n
  pub new : (other : Inc) → length (taken (life called other)) ≤ length front
  pub reads : (d : Cert) → Mem d (certified r (scan r k)) → d.place ≤ length front → executed (life begun m) d.gtid ≡ true

abbrev pub BeforeLaw : Setup → List Value → World → Type 0
BeforeLaw r k w =
    (m : Inc) (b c : World) (level : Level) (h : WasBegun w m b c level) → has_sync level ≡ true → ReadsBefore r k m b c h.sync

abbrev pub FailoverLaw : Setup → List Value → World → Type 0
FailoverLaw r k w =
    (m : Inc) (b c : World) (level : Level) → WasBegun w m b c level → online r m (life c m) ≡ true → is_eventual level ≡ false → (view r (taken (life c m))).primary ≡ Some m →
    (d : Cert) → Mem d (certified r (scan r k)) → d.place < (view r (taken (life c m))).elected → executed (life b m) d.gtid ≡ true

-- the commit of `d` was answered at `m`, `a` being what had happened by then
pub record WasAcked (r : Setup) (k : List Value) (w : World) (m : Inc) (a : World) (d : Cert) : Type 0 where
  pub mark : IsPast (Does m (Acked d.gtid) ∷ a) w
  pub cert : Mem d (certified r (scan r k))
  pub after : d.txn.after ≡ true

pub record AfterKept (r : Setup) (w : World) (m : Inc) (a : World) (d : Cert) : Type 0 where
  pub complete : Complete r (taken (life a m)) d
  -- a later begin call at a member of that view reads it
  pub later : (m2 : Inc) (b c : World) (level : Level) → WasBegun w m2 b c level → IsPast (Does m (Acked d.gtid) ∷ a) c → online r m2 (life c m2) ≡ true → member r (taken (life a m)) m2 ≡ true → executed (life b m2) d.gtid ≡ true

abbrev pub AfterLaw : Setup → List Value → World → Type 0
AfterLaw r k w = (m : Inc) (a : World) (d : Cert) → WasAcked r k w m a d → AfterKept r w m a d

-- the rows of each server are those of its certified transactions in order of place, and then of its offline writes; no change is refused
pub record RowLaw (r : Setup) (k : List Value) (w : World) : Type 0 where
  pub rows : (s : ℕ) (i : Item) → stored r w s i ≡ offline_over w s (rows_of (certified r (scan r k)) (owned w s)) i
  pub fits : (s : ℕ) → NoneRefused (certified r (scan r k)) (owned w s)
  pub running : (m : Inc) (g : Gtid) → runs r w m ≡ true → owned w m.server g ≡ executed (life w m) g

-- what a joiner was given is what each member had taken up to the joiner's Add
abbrev pub JoinLaw : World → Type 0
JoinLaw w =
    (m : Inc) (b : World) (base : List Placed) → IsPast (Does m (Given base) ∷ b) w → (other : Inc) → length base ≤ length (marked (life w other)) → upto (length base) (marked (life w other)) ≡ base
