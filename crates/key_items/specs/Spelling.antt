-- Items as bytes: the length of the table's name, 1 to 64, in one byte, the name, the length of the key, 1 to 255, in one byte, the key.
-- In a list each item is above the one before. A fault stands at the first byte with which no such item begins.
use Rattle.std.specs.Prelude.{◌≡◌, ℕ, ◌-◌, ◌≤◌, Bool, true, ◌&&◌, ◌||◌, Option, Some, None, List, [], ◌++◌, length, replicate, nat_le, if◌then◌else◌}
use Rattle.byte_forms.specs.Numbers.{number, number_of, are_bytes}
use Rattle.byte_forms.specs.Reads.{Reader, ◌>>=◌, pure}
use Rattle.byte_forms.specs.Fields.{field}
use Rattle.gr_ids.specs.Names.{bytes_eq, bytes_lt}
use Rattle.key_items.specs.Items.{Item, item_lt}

pub record IsItem (i : Item) : Type 0 where
  pub table_above : 1 ≤ length i.table
  pub table_below : length i.table ≤ 64
  pub key_above : 1 ≤ length i.key
  pub key_below : length i.key ≤ 255

abbrev pub item_bytes : Item → List ℕ
item_bytes i = number 1 (length i.table) ++ (i.table ++ (number 1 (length i.key) ++ i.key))

-- the item is above the one before, if there is one
abbrev pub IsItemAfter : Option Item → Item → Type 0
IsItemAfter None i = IsItem i
IsItemAfter (Some b) i = IsItem i × (item_lt b i ≡ true)

-- what memory holds: each byte is below 256
abbrev pub AreBytes : Item → Type 0
AreBytes i = (are_bytes i.table ≡ true) × (are_bytes i.key ≡ true)

-- ---- which tables and keys go on

-- the greatest string of n bytes that begins with these
abbrev pub greatest : ℕ → List ℕ → List ℕ
greatest n front = front ++ replicate (n - length front) 255

-- there is a key above the one before: that one isn't the greatest
abbrev pub has_key_above : Item → Bool
has_key_above b = bytes_lt b.key (greatest 255 [])

-- a table of n bytes begins so, with which an item is above the one before
abbrev pub begins_table : Option Item → ℕ → List ℕ → Bool
begins_table None n front = true
begins_table (Some b) n front = bytes_lt b.table (greatest n front) || (bytes_eq b.table (greatest n front) && has_key_above b)

-- a key of n bytes begins so, with which an item of this table is above the one before
abbrev pub begins_key : Option Item → List ℕ → ℕ → List ℕ → Bool
begins_key None table n front = true
begins_key (Some b) table n front = if bytes_eq b.table table then bytes_lt b.key (greatest n front) else true

abbrev pub is_between : ℕ → ℕ → ℕ → Bool
is_between low high n = nat_le low n && nat_le n high

-- a length in one byte that passes the test
abbrev pub length_where : (ℕ → Bool) → Reader ℕ
length_where passes = field (λ bytes. passes (number_of bytes)) 1 >>= λ bytes. pure (number_of bytes)

unfoldable pub next_item_after : Option Item → Reader Item
next_item_after before = do
  t ← length_where (λ n. is_between 1 64 n && begins_table before n [])
  table ← field (begins_table before t) t
  k ← length_where (λ n. is_between 1 255 n && begins_key before table n [])
  key ← field (begins_key before table k) k
  pure (record { table = table; key = key })
