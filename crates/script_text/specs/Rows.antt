-- The rows that a line names.
use Rattle.std.specs.Prelude.{List, ◌&&◌, Option, Some, None, if◌then◌else◌, codes}
use Rattle.std.specs.Option.{option_map}
use Rattle.std.specs.Str.{bytes_eq}
use Rattle.group_rules.specs.Names.{Item, Change, Inserts, Updates, Deletes}
use Rattle.group_rules.specs.declared.said.Row.{Row}
use Rattle.script_text.specs.Words.{Text, ◌>>=◌, two_words, three_words}
use Rattle.script_text.specs.Names.{is_table, is_text}

-- TABLE KEY
unfoldable pub item_of : List Text → Option Item
item_of ws = do
  (table, key) ← two_words ws
  if is_table table && is_text 255 key then Some (record { table = table; key = key }) else None

-- TABLE KEY VALUE
unfoldable pub row_of : List Text → Option Row
row_of ws = do
  (table, key, value) ← three_words ws
  if is_table table && is_text 255 key && is_text 60000 value
      then Some (record { item = record { table = table; key = key }; value = value })
      else None

-- `insert TABLE KEY VALUE`, `update TABLE KEY VALUE`, `delete TABLE KEY`
unfoldable pub change_of : Text → List Text → Option Change
change_of name ws =
    if bytes_eq name (codes "insert") then option_map (λ r. record { item = r.item; what = Inserts r.value }) (row_of ws)
    else if bytes_eq name (codes "update") then option_map (λ r. record { item = r.item; what = Updates r.value }) (row_of ws)
    else if bytes_eq name (codes "delete") then option_map (λ i. record { item = i; what = Deletes }) (item_of ws)
    else None
