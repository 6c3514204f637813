-- Changes as bytes: the index of the item in the write set, in four bytes, and one byte: 1 for an insert, 2 for an update, each with the
-- row's bytes behind their count, and 3 for a delete.
use Rattle.std.specs.Prelude.{◌≡◌, ℕ, zero, suc, ◌-◌, ◌≤◌, Bool, true, false, Option, Some, None, List, [], ◌∷◌, ◌++◌, length, slice_index_or}
use Rattle.byte_forms.specs.Numbers.{number}
use Rattle.byte_forms.specs.Reads.{Read, Got, Fault, Reader, ◌>>=◌, pure}
use Rattle.byte_forms.specs.Fields.{number_in}
use Rattle.byte_forms.specs.Lists.{counted, bytes_in}
use Rattle.key_items.specs.Items.{item_eq, has_item}
use Rattle.key_items.specs.declared.item.Item.{Item}
use Rattle.key_items.specs.declared.change.Change.{Change}
use Rattle.key_items.specs.declared.change.ChangeKind.{ChangeKind}
use Rattle.key_items.specs.declared.change.ChangeKind.TheVariants.{Insert, Update, Delete}

-- 2 ^ 32 - 1
abbrev pub last_u32 : ℕ
last_u32 = 4294967295

abbrev pub IsKind : ChangeKind → Type 0
IsKind (Insert row) = length row ≤ last_u32
IsKind (Update row) = length row ≤ last_u32
IsKind Delete = Unit {0}

-- a change of one of the items
pub record IsChange (items : List Item) (c : Change) : Type 0 where
  pub item : has_item items c.item ≡ true
  pub what : IsKind c.what

-- the place of an item in a write set, from 0
abbrev pub index_of : Item → List Item → ℕ
index_of i [] = 0
index_of i (x ∷ xs) = elim (item_eq i x) [ true ↦ 0 | false ↦ suc (index_of i xs) ]

abbrev pub kind_bytes : ChangeKind → List ℕ
kind_bytes (Insert row) = number 1 1 ++ counted row
kind_bytes (Update row) = number 1 2 ++ counted row
kind_bytes Delete = number 1 3

abbrev pub change_bytes : List Item → Change → List ℕ
change_bytes items c = number 4 (index_of c.item items) ++ kind_bytes c.what

-- what stands behind the byte, from 1 on
abbrev pub rows : List (Reader ChangeKind)
rows = (bytes_in 0 last_u32 >>= λ row. pure (Insert row)) ∷ (bytes_in 0 last_u32 >>= λ row. pure (Update row)) ∷ pure Delete ∷ []

unfoldable pub next_kind : Reader ChangeKind
next_kind = number_in 1 1 3 >>= λ k. slice_index_or rows (k - 1) (pure Delete)

-- an index below so many
abbrev pub next_index : ℕ → Reader ℕ
next_index zero = number_in 4 1 0
next_index (suc n) = number_in 4 0 n

-- a change of the item at an index, which there is
abbrev pub change_at : List Item → ℕ → ChangeKind → Reader Change
change_at [] n what bytes = Fault (length bytes)
change_at (i ∷ items) zero what bytes = Got (record { item = i; what = what }) bytes
change_at (i ∷ items) (suc n) what bytes = change_at items n what bytes

unfoldable pub next_change : List Item → Reader Change
next_change items = do
  index ← next_index (length items)
  what ← next_kind
  change_at items index what
