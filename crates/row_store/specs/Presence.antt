-- Whether there is a row, without its value.
use Rattle.std.specs.Prelude.{Bool, List, [], ◌∷◌, is_some, if◌then◌else◌}
use Rattle.key_items.specs.declared.item.Item.{Item}
use Rattle.key_items.specs.Items.{item_eq}
use Rattle.key_items.specs.declared.change.Change.{Change}
use Rattle.group_rules.specs.Rows.{row_after}

-- there is a row of the item after these changes
abbrev pub is_there : Item → Bool → List Change → Bool
is_there i b [] = b
is_there i b (c ∷ cs) = is_there i (if item_eq c.item i then is_some (row_after c.what) else b) cs
