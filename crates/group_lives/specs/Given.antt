-- What a Give and a Welcome tell a joiner, against the list up to its Add.
use Rattle.std.specs.Prelude.{◌≡◌, ℕ, true, cond, Option, Some, None, List, [], ◌∷◌, length}
use Rattle.gr_ids.specs.declared.names.Inc.{Inc}
use Rattle.gr_ids.specs.declared.names.Gtid.{Gtid}
use Rattle.gtid_sets.specs.Sets.{Gtids}
use Rattle.gtid_sets.specs.Canonical.{IsCanonical}
use Rattle.key_items.specs.declared.item.Item.{Item}
use Rattle.key_items.specs.Items.{item_eq, item_lt}
use Rattle.group_rules.specs.Names.{KeptItem, Give}
use Rattle.group_rules.specs.Events.{Setup}
use Rattle.group_rules.specs.View.{View}
use Rattle.group_rules.specs.Told.{told_of}
use Rattle.group_rules.specs.Certifier.{last_of}
use Rattle.group_laws.specs.Lists.{Mem}
use Rattle.group_laws.specs.Entries as law
use Rattle.group_laws.specs.View as seen
use Rattle.group_laws.specs.Primary as primary
use Rattle.group_laws.specs.Verdict as decided

-- the last set that a member told is canonical
abbrev pub IsToldSet : Option Gtids → Type 0
IsToldSet None = Unit {0}
IsToldSet (Some x) = IsCanonical x

-- ---- kept items, as last writers

-- the place and the GTID of a writer
abbrev pub Writer : Type 0
Writer = ℕ × Gtid

-- the last writer that is kept of an item
abbrev pub writer_of : List KeptItem → Item → Option Writer
writer_of [] i = None
writer_of (k ∷ ks) i = cond (item_eq k.item i) (Some (k.place, k.gtid)) (writer_of ks i)

abbrev pub pair_of : Option law.Cert → Option Writer
pair_of None = None
pair_of (Some c) = Some (c.place, c.gtid)

-- the items kept have the writers that the list keeps
abbrev pub SameWriters : Setup → List KeptItem → List law.Placed → Type 0
SameWriters s ks m = (i : Item) → writer_of ks i ≡ pair_of (decided.kept_writer s m i)

-- each item stands once, in order
abbrev pub AllAbove : Item → List KeptItem → Type 0
AllAbove i ks = (k : KeptItem) → Mem k ks → item_lt i k.item ≡ true

abbrev pub Sorted : List KeptItem → Type 0
Sorted [] = Unit {0}
Sorted (k ∷ ks) = AllAbove k.item ks × Sorted ks

-- ---- a Give

-- The group hasn't removed it. (Of those that it removed, a Give tells nothing: they make no more values.)
abbrev pub IsHere : Setup → List law.Value → Inc → Type 0
IsHere s p m = seen.standing s p m ≡ seen.Gone → ⊥

-- with the view told and the place of the Add
pub record GivenAs (s : Setup) (base : List law.Placed) (g : Give) (v : View) (n : ℕ) : Type 0 where
  pub places : length base ≡ n
  pub view : primary.view s (law.values base) ≡ v
  pub told : (m : Inc) → seen.active s (law.values base) m ≡ true → told_of g.told m ≡ seen.told (law.values base) m
  pub sound : (m : Inc) → IsToldSet (told_of g.told m)
  pub last : (m : Inc) → IsHere s (law.values base) m → last_of g.last m ≡ decided.number_in (decided.last_of m (law.certified s base))
  pub blocks : g.blocks ≡ decided.blocks_taken s.limits.block (law.certified s base)
  pub sorted : Sorted g.items
  pub writers : SameWriters s g.items base
