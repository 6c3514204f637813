-- What a queued transaction's bytes say.
use Rattle.std.specs.Prelude.{◌≡◌, ℕ, Bool, Option, Some, None, List, is_some}
use Rattle.key_items.specs.declared.change.Change.{Change}
use Rattle.key_items.specs.declared.item.Item.{Item}
use Rattle.txn_forms.specs.declared.body.Body.{Body}
use Rattle.txn_forms.specs.declared.body.Body.TheVariants.{Txn as Writes}
use Rattle.txn_forms.specs.Bodies.{read_body}

abbrev pub changes_of : Option Body → Option (List Change)
changes_of (Some (Writes t)) = Some t.changes
changes_of b = None

-- the changes of the transaction that these bytes spell, if they spell one
abbrev pub changes_in : List ℕ → Option (List Change)
changes_in bytes = changes_of (read_body bytes)

abbrev pub items_of : Option Body → Option (List Item)
items_of (Some (Writes t)) = Some t.items
items_of b = None

-- the items that it writes
abbrev pub items_in : List ℕ → Option (List Item)
items_in bytes = items_of (read_body bytes)

-- these are its changes and items
abbrev pub AreDecoded : List ℕ → List Change → List Item → Type 0
AreDecoded bytes cs ws = (changes_in bytes ≡ Some cs) × (items_in bytes ≡ Some ws)

abbrev pub spells_txn : List ℕ → Bool
spells_txn bytes = is_some (changes_in bytes)
