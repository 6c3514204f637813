-- A transaction whose snapshot may be judged by the kept items.
use Rattle.std.specs.Prelude.{◌≡◌, ◌<◌, ◌≤◌, true, false, List, Some, length}
use Rattle.group_rules.specs.Events.{Setup}
use Rattle.group_laws.specs.Lists.{Mem, IsPast}
use Rattle.group_laws.specs.Names.{Inc, Gtid, Item, Gtids, has, Txn}
use Rattle.group_laws.specs.Entries.{Body, Write, Value, Placed, Cert, values, certified}
use Rattle.group_laws.specs.View.{set_told, active, stable, before_online}
use Rattle.group_laws.specs.Verdict.{writes}

-- a value that tells a set
abbrev pub Tells : Value → Inc → Gtids → Type 0
Tells v m s = (v.origin ≡ m) × (set_told v.body ≡ Some s)

-- the two write one item, which `t` writes too
pub record Meet (t : Txn) (c d : Cert) : Type 0 where
  pub item : Item
  pub of_txn : Mem item t.items
  pub of_first : writes c item ≡ true
  pub of_second : writes d item ≡ true

pub record FreshTxn (r : Setup) (m : List Placed) (origin : Inc) (t : Txn) : Type 0 where
  -- the snapshot has every set that the origin told earlier
  pub told : (v : Value) (s : Gtids) → Mem v (values m) → Tells v origin s → (g : Gtid) → has s g ≡ true → has t.snapshot g ≡ true
  -- and every GTID certified before the origin's Online entry
  pub before : (c : Cert) → Mem c (certified r m) → c.place ≤ before_online r (values m) origin → has t.snapshot c.gtid ≡ true
  -- with a writer of an item it has all earlier writers of that item
  pub closed : (c d : Cert) → Mem c (certified r m) → Mem d (certified r m) → c.place < d.place → Meet t c d → has t.snapshot d.gtid ≡ true → has t.snapshot c.gtid ≡ true
  -- it has only what was certified earlier
  pub within : (g : Gtid) → has t.snapshot g ≡ true → (c : Cert) × Mem c (certified r m) × (c.gtid ≡ g)
  -- the origin is ONLINE
  pub online : active r (values m) origin ≡ true

abbrev pub FreshBody : Setup → List Placed → Inc → Body → Type 0
FreshBody r m origin (Write t) = FreshTxn r m origin t
FreshBody r m origin _ = Unit {0}

abbrev pub Fresh : Setup → List Placed → Value → Type 0
Fresh r m v = FreshBody r m v.origin v.body

-- `c` is the last positive writer of the item, and no stable set from its place on has its GTID
pub record IsKept (r : Setup) (m : List Placed) (i : Item) (c : Cert) : Type 0 where
  pub positive : Mem c (certified r m)
  pub writer : writes c i ≡ true
  pub last : (d : Cert) → Mem d (certified r m) → c.place < d.place → writes d i ≡ false
  pub unstable : (p : List Value) → IsPast p (values m) → c.place ≤ length p → stable r p c.gtid ≡ false
