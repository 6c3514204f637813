-- A list is fresh where the snapshot of each of its transactions is new enough for the items that are kept to judge it, and consistent.
-- `l` is the list, or what an incarnation took of it, before the transaction.
use Rattle.std.specs.Prelude.{◌≡◌, ◌<◌, ℕ, true, Option, Some, [], ◌∷◌}
use Rattle.gtid_sets.specs.Sets.{Gtids, has}
use Rattle.key_items.specs.Items.{has_item}
use Rattle.node_rules.specs.Lists.{In}
use Rattle.group_rules.specs.Names.{Inc, Gtid, Item, Txn, Body, Writes}
use Rattle.group_rules.specs.View.{is_online}
use Rattle.group_rules.specs.Events.{Took, Life, Setup, Entry, Cert}
use Rattle.group_rules.specs.Life.{view, certs, online_place}
use Rattle.group_rules.specs.Told.{tells}

-- both write an item that the transaction writes too
pub record Meet (t : Txn) (c d : Cert) : Type 0 where
  pub item : Item
  pub of_txn : has_item t.items item ≡ true
  pub of_first : has_item c.txn.items item ≡ true
  pub of_second : has_item d.txn.items item ≡ true

pub record IsFresh (s : Setup) (l : Life) (origin : Inc) (t : Txn) : Type 0 where
  -- the snapshot has every set that the origin told earlier
  pub told : (e : Entry) (set : Gtids) (g : Gtid) → In (Took e) l → e.value.id.origin ≡ origin → tells e.holds ≡ Some set → has set g ≡ true → has t.snapshot g ≡ true
  -- where the origin joined, it has every GTID certified before the origin's Online entry
  pub joined : (p : ℕ) (c : Cert) → online_place l origin ≡ Some p → In c (certs l) → c.place < p → has t.snapshot c.gtid ≡ true
  -- with a writer of an item of the transaction it has all earlier positive writers of that item
  pub closed : (c d : Cert) → In c (certs l) → In d (certs l) → c.place < d.place → Meet t c d → has t.snapshot d.gtid ≡ true → has t.snapshot c.gtid ≡ true
  -- it has only GTIDs certified earlier
  pub within : (g : Gtid) → has t.snapshot g ≡ true → (c : Cert) × In c (certs l) × (c.gtid ≡ g)
  -- the origin is ONLINE
  pub online : is_online (view s l) origin ≡ true

abbrev pub IsFreshBody : Setup → Life → Inc → Option Body → Type 0
IsFreshBody s l origin (Some (Writes t)) = IsFresh s l origin t
IsFreshBody s l origin b = Unit {0}

-- each transaction of the list is fresh
abbrev pub FreshList : Setup → Life → Type 0
FreshList s [] = Unit {0}
FreshList s (Took e ∷ l) = IsFreshBody s l e.value.id.origin e.holds × FreshList s l
FreshList s (d ∷ l) = FreshList s l
