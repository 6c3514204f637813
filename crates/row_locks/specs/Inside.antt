-- How the keys of sessions stand in a map, and the list of those that a session has locked.
use Rattle.std.specs.Prelude.{◌≡◌, ℕ, Bool, true, false, Option, Some, None, List}
use Rattle.std.specs.Ordering.{nat_cmp}
use Rattle.std.specs.Map.{lookup}
use Rattle.std.specs.BTreeMap.{is_at}
use Rattle.std.specs.Global.{Vec}
use Rattle.std.specs.Prelude.{map}
use Rattle.key_items.specs.declared.item.Item.{Item}
use Rattle.key_items.specs.Items.{has_item}
use Rattle.row_locks.specs.Locking.{SessionKey, session_at}

abbrev pub key_of : Item × ℕ → SessionKey
key_of e = record { item = e.0; session = e.1 }

abbrev pub is_in : Option (Vec Item) → Item → Bool
is_in None i = false
is_in (Some v) i = has_item v.items i

-- the session's list has the key
abbrev pub lists : List (ℕ × Vec Item) → ℕ → Item → Bool
lists es s i = is_in (lookup (is_at (nat_cmp s)) es) i

-- each key that a session holds is in that session's list
abbrev pub AreListed : List (Item × ℕ) → List (ℕ × Vec Item) → Type 0
AreListed ks es = (s : ℕ) (i : Item) → session_at (map key_of ks) i ≡ Some s → lists es s i ≡ true
