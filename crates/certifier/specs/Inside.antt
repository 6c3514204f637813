-- How a certifier stands in maps by incarnation and by item.
use Rattle.std.specs.Prelude.{◌≡◌, ℕ, ◌≤◌, ◌*◌, true, IfSome, IsSome, List, map}
use Rattle.std.specs.Option.{IsSomeAnd}
use Rattle.std.specs.Global.{Vec}
use Rattle.std.specs.List.Sorted.{IsStrictlySortedBy}
use Rattle.std.specs.Map.{keys_of, lookup}
use Rattle.std.specs.BTreeMap.{is_at}
use Rattle.std.specs.Cmp.Lexicographic.{slice_cmp}
use Rattle.std.specs.Ordering.{nat_cmp, ordering_then}
use Rattle.std.specs.declared.cmp.Ordering.{Ordering}
use Rattle.gr_ids.specs.declared.names.Inc.{Inc}
use Rattle.gr_ids.specs.declared.names.Gtid.{Gtid}
use Rattle.gr_ids.specs.declared.names.LastNumber.{LastNumber}
use Rattle.key_items.specs.declared.item.Item.{Item}
use Rattle.key_items.specs.declared.item.KeptItem.{KeptItem}
use Rattle.key_items.specs.Items.{has_item}
use Rattle.node_rules.specs.Order.{inc_cmp}
use Rattle.certifier.specs.declared.writer.Writer.{Writer}
use Rattle.certifier.specs.Certifying.{Certifying}

-- by table, then key, as bytes
abbrev pub item_cmp : Item → Item → Ordering
item_cmp a b = ordering_then (slice_cmp nat_cmp a.table b.table) (slice_cmp nat_cmp a.key b.key)

abbrev pub last_in : Inc × ℕ → LastNumber
last_in e = record { inc = e.0; number = e.1 }

abbrev pub kept_in : Item × Writer → KeptItem
kept_in e = record { item = e.0; gtid = e.1.gtid; place = e.1.place }

abbrev pub certifying_in : List ℕ → ℕ → ℕ → List (Inc × ℕ) → List (Item × Writer) → Certifying
certifying_in group block blocks last items = record { group = group; block = block; certified = record { blocks = blocks; last = map last_in last; items = map kept_in items } }

-- by source, then number
abbrev pub gtid_cmp : Gtid → Gtid → Ordering
gtid_cmp a b = ordering_then (slice_cmp nat_cmp a.source b.source) (nat_cmp a.number b.number)

-- each of these items is kept
abbrev pub AreThere : List (Item × Writer) → List Item → Type 0
AreThere es is = (i : Item) → has_item is i ≡ true → IsSome (lookup (is_at (item_cmp i)) es)

-- blocks are of 1 to 1,000,000 numbers, and no last number is above those of the blocks taken
pub record IsSound (block blocks : ℕ) (last : List (Inc × ℕ)) : Type 0 where
  pub least : 1 ≤ block
  pub most : block ≤ 1000000
  pub numbers : (i : Inc) → IfSome (lookup (is_at (inc_cmp i)) last) (λ n. n ≤ blocks * block)

-- the transaction wrote the item, by what is noted for each writer
abbrev pub IsNoted : List (Gtid × Vec Item) → Gtid → Item → Type 0
IsNoted ws g i = IsSomeAnd (lookup (is_at (gtid_cmp g)) ws) (λ v. has_item v.items i ≡ true)

-- the items ascend, and each is noted for its last writer
pub record IsIndexed (es : List (Item × Writer)) (ws : List (Gtid × Vec Item)) : Type 0 where
  pub ordered : IsStrictlySortedBy item_cmp (keys_of es)
  pub noted : (i : Item) → IfSome (lookup (is_at (item_cmp i)) es) (λ w. IsNoted ws w.gtid i)
