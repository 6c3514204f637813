-- Session calls.
use Rattle.std.specs.Prelude.{◌≤◌, ℕ, true, false, Some, List, length, nat_le}
use Rattle.key_items.specs.Spelling.{IsItem}
use Rattle.slot_values.specs.declared.value.What.TheVariants.{Body as Says}
use Rattle.txn_forms.specs.declared.body.Body.TheVariants.{Txn as Writes}
use Rattle.txn_forms.specs.declared.body.Txn.{Txn}
use Rattle.txn_forms.specs.Parts.{whole_bytes}
use Rattle.group_rules.specs.Calls.{own_part}
use Rattle.group_rules.specs.Member.{Member, for_each, own}
use Rattle.group_rules.specs.Parts.{cut}
use Rattle.group_rules.specs.declared.requests.Request.{Request}
use Rattle.group_rules.specs.declared.requests.Request.TheVariants.{Begin, Get, Insert, Update, Delete}

-- a key has the form of keys, and a begin waits for at least one tick
abbrev pub IsRequest : Request → Type 0
IsRequest (Begin v w) = 1 ≤ w
IsRequest (Get i) = IsItem i
IsRequest (Insert i r) = IsItem i
IsRequest (Update i r) = IsItem i
IsRequest (Delete i) = IsItem i
IsRequest r = Unit {0}

-- the own values that bring the body of a transaction
abbrev pub sends_body : Txn → List ℕ → Member → Member
sends_body t b a = elim (nat_le (length b) whole_bytes) [ true ↦ own (Says b) (Some (Writes t)) a | false ↦ for_each (own_part t) (cut b) a ]
