-- How the rows stand for a history.
use Rattle.std.specs.Prelude.{◌≡◌, ◌<◌, Bool, true, false, List, [], ◌∷◌, ◌++◌}
use Rattle.gr_ids.specs.declared.names.Gtid.{Gtid}
use Rattle.gr_ids.specs.Names.{gtid_eq}
use Rattle.gtid_sets.specs.Sets.{Gtids, has, with_gtid}
use Rattle.key_items.specs.declared.item.Item.{Item}
use Rattle.key_items.specs.declared.change.Change.{Change}
use Rattle.key_items.specs.declared.change.ChangeKind.TheVariants.{Insert as Inserts}
use Rattle.key_items.specs.Items.{item_eq}
use Rattle.node_rules.specs.Lists.{In}
use Rattle.group_rules.specs.Events.{Cert, Committed, Did, Life, OfflineWrite, Restores, Starts, Stored, Took}
use Rattle.group_rules.specs.Life.{certs, executed, stored}
use Rattle.group_rules.specs.Rows.{known, row_of}
use Rattle.group_rules.specs.World.{committed_of}
use Rattle.row_store.specs.Chains.{Chain, row_at, row_now}

-- Whatever the set has of the certified transactions that the history knows, and of its server's offline writes, was executed.
pub record IsWithin (e : Gtids) (l : Life) : Type 0 where
  pub certified : (c : Cert) → In c (known l) → has e c.gtid ≡ true → has (executed l) c.gtid ≡ true
  pub written : (w : OfflineWrite) → In w (stored l).writes → has e w.gtid ≡ true → has (executed l) w.gtid ≡ true

-- each GTID of the first set is in the second
abbrev pub IsPartOf : Gtids → Gtids → Type 0
IsPartOf e f = (g : Gtid) → has e g ≡ true → has f g ≡ true

-- of the GTIDs of the first set, the two others have the same
abbrev pub AreAlike : Gtids → Gtids → Gtids → Type 0
AreAlike s e f = (g : Gtid) → has s g ≡ true → has e g ≡ has f g

-- A set within the history sees the rows that the rules of the group give it. What wasn't executed is seen in no set. The rows now are those of all that was
-- executed.
pub record RowsOf (l : Life) (cs : List Chain) : Type 0 where
  pub seen : (i : Item) (e : Gtids) → IsWithin e l → row_at cs i e ≡ row_of l e i
  pub alone : (i : Item) (e f : Gtids) → AreAlike (executed l) e f → row_at cs i e ≡ row_at cs i f
  pub now : (i : Item) → row_now cs i ≡ row_at cs i (executed l)

-- a start, an entry, a Give and a commit change what is known or executed
abbrev pub is_of_rows : Did → Bool
is_of_rows (Starts x) = true
is_of_rows (Took e) = true
is_of_rows (Restores g cs) = true
is_of_rows (Committed g) = true
is_of_rows d = false

abbrev pub is_start : Did → Bool
is_start (Starts x) = true
is_start d = false

-- ---- a commit

-- no change of the one changes a row that the other changes
abbrev pub AreApart : List Change → List Change → Type 0
AreApart xs ys = (x y : Change) → In x xs → In y ys → item_eq x.item y.item ≡ false

-- The transaction of this GTID is committed: it is the only one of its GTID and of its place, those behind it that are executed already share no row with it, and
-- no row was written while the server didn't run.
pub record IsCommit (l : Life) (g : Gtid) (c : Cert) : Type 0 where
  pub certified : In c (known l)
  pub named : gtid_eq c.gtid g ≡ true
  pub only : (d : Cert) → In d (known l) → gtid_eq d.gtid g ≡ true → d ≡ c
  pub placed : (d : Cert) → In d (known l) → d.place ≡ c.place → d ≡ c
  pub ahead : (d : Cert) → In d (known l) → has (executed l) d.gtid ≡ true → c.place < d.place → AreApart c.txn.changes d.txn.changes
  pub unwritten : (stored l).writes ≡ []

-- ---- from one incarnation to the next

-- no two certified transactions that it knows have one place
abbrev pub HasPlaces : Life → Type 0
HasPlaces l = (c d : Cert) → In c (known l) → In d (known l) → c.place ≡ d.place → c ≡ d

-- of those that it took or was given, what it has executed it committed
abbrev pub HasCommitted : Life → Type 0
HasCommitted l = (c : Cert) → In c (certs l) → has (executed l) c.gtid ≡ true → In c (committed_of l (certs l))

-- an offline write as a change, whether or not there was a row
abbrev pub write_change : OfflineWrite → Change
write_change w = record { item = w.item; what = Inserts w.row }

abbrev pub with_write : Stored → OfflineWrite → Stored
with_write y w = record { executed = with_gtid y.executed w.gtid; committed = y.committed; writes = y.writes ++ w ∷ [] }

-- no certified transaction that it knows and no offline write has this GTID
pub record IsFree (l : Life) (g : Gtid) : Type 0 where
  pub uncertified : (c : Cert) → In c (known l) → gtid_eq g c.gtid ≡ false
  pub unwritten : (w : OfflineWrite) → In w (stored l).writes → gtid_eq g w.gtid ≡ false
