-- Rows with their versions: for each item a chain, which each transaction that changes the item extends by what it left of the row.
-- (MySQL 8.0 Reference Manual, InnoDB Multi-Versioning: a consistent read sees what the transactions of its snapshot wrote.)
use Rattle.std.specs.Prelude.{◌≡◌, ℕ, Bool, Option, Some, None, List, [], ◌∷◌, ◌++◌, fold, nat_lt, if◌then◌else◌}
use Rattle.std.specs.List.{list_all}
use Rattle.gtid_sets.specs.Sets.{Gtids, has}
use Rattle.key_items.specs.declared.item.Item.{Item}
use Rattle.key_items.specs.Items.{item_eq}
use Rattle.key_items.specs.declared.change.Change.{Change}
use Rattle.key_items.specs.declared.change.ChangeKind.{ChangeKind}
use Rattle.key_items.specs.declared.change.ChangeKind.TheVariants.{Insert as Inserts, Update as Updates, Delete as Deletes}
use Rattle.gr_ids.specs.declared.names.Gtid.{Gtid}
use Rattle.group_rules.specs.declared.said.Row.{Row}
use Rattle.group_rules.specs.Events.{Cert}
use Rattle.group_rules.specs.Rows.{changed_row, row_by}
use Rattle.row_store.specs.declared.fault.RowFault.{RowFault}
use Rattle.row_store.specs.declared.fault.RowFault.TheVariants.{DuplicateKey, NoRow}
pub use Rattle.row_store.specs.declared.version.Version.{Version}

-- the versions of an item, oldest first, and for how many more there is room
pub record Chain : Type 0 where
  pub item : Item
  pub versions : List Version
  pub spare : ℕ

abbrev pub versions_of : List Chain → Item → List Version
versions_of [] i = []
versions_of (c ∷ cs) i = if item_eq i c.item then c.versions else versions_of cs i

abbrev pub spare_of : List Chain → Item → ℕ
spare_of [] i = 0
spare_of (c ∷ cs) i = if item_eq i c.item then c.spare else spare_of cs i

-- ---- rows

-- the row as the last of those whose GTID is in the set left it
abbrev pub seen_in : Gtids → List Version → Option (List ℕ)
seen_in e vs = fold (λ r v. if has e v.gtid then v.row else r) None vs

-- the row as the last one left it
abbrev pub last_row : List Version → Option (List ℕ)
last_row vs = fold (λ r v. v.row) None vs

abbrev pub row_at : List Chain → Item → Gtids → Option (List ℕ)
row_at cs i e = seen_in e (versions_of cs i)

abbrev pub row_now : List Chain → Item → Option (List ℕ)
row_now cs i = last_row (versions_of cs i)

abbrev pub row_list : Item → Option (List ℕ) → List Row
row_list i None = []
row_list i (Some v) = record { item = i; value = v } ∷ []

abbrev pub item_of : Row → Item
item_of r = r.item

-- the rows now, by ascending item
abbrev pub rows_of : List Chain → List Row
rows_of [] = []
rows_of (c ∷ cs) = row_list c.item (last_row c.versions) ++ rows_of cs

-- the row of an item in a list of rows
abbrev pub row_listed : List Row → Item → Option (List ℕ)
row_listed [] i = None
row_listed (r ∷ rs) i = if item_eq i r.item then Some r.value else row_listed rs i

-- ---- what a transaction does

-- there is room for one version more of each item
abbrev pub has_room : List Chain → List Change → Bool
has_room cs xs = list_all (λ x. nat_lt 0 (spare_of cs x.item)) xs

-- the row of an item after the changes of a transaction, in a set that has its GTID, and in one that hasn't
abbrev pub row_with : Gtid → List Change → Gtids → Item → Option (List ℕ) → Option (List ℕ)
row_with g xs e i r = if has e g then changed_row i r xs else r

-- the rows are those of the transactions, in the order in which they were applied
abbrev pub IsFoldOf : List Chain → List Cert → Type 0
IsFoldOf cs ts = (i : Item) (e : Gtids) → row_at cs i e ≡ row_by i e None ts

abbrev pub IsApplied : List Chain → List Chain → Gtid → List Change → Type 0
IsApplied old new g xs = (i : Item) (e : Gtids) → row_at new i e ≡ row_with g xs e i (row_at old i e)

-- ---- whether a change fits

-- the row now, with the transaction's own changes
abbrev pub row_own : List Chain → List Change → Item → Option (List ℕ)
row_own cs own i = changed_row i (row_now cs i) own

abbrev pub fault_of : ChangeKind → RowFault
fault_of (Inserts v) = DuplicateKey
fault_of (Updates v) = NoRow
fault_of Deletes = NoRow
