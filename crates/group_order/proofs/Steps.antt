-- How each incarnation follows the log, but for what the list has at a place.
use Rattle.std.specs.Prelude.{◌≡◌, ℕ, suc, Bool, Some, List}
use Rattle.gr_ids.specs.declared.names.Inc.{Inc}
use Rattle.slot_values.specs.declared.value.Value.{Value}
use Rattle.slot_values.specs.declared.kept.Kept.TheVariants.{At as KeptAt}
use Rattle.slot_values.specs.Log.{became}
use Rattle.group_rules.specs.Events.{Did, Took, Skips, Enters, Setup, Entry}
use Rattle.group_rules.specs.Legal.{last_slot, WasMade}
use Rattle.group_rules.specs.Taking.{entry_of}
use Rattle.group_rules.specs.World.{Past, life_in}
use Rattle.group_rules.specs.OneList.{reading_of, value_at, before_slot}
use Rattle.group_order.specs.OneLog.{JoinedAs, SkippedAs}

pub record SlotTaken (t : Setup) (log : List Value) (p : Past) (i : Inc) (e : Entry) : Type 0 where
  pub value : value_at log e.slot ≡ Some e.value
  pub next : e.slot ≡ suc (last_slot (life_in p i))
  pub made : WasMade p e.value
  pub place : ℕ
  pub effect : Bool
  pub kept : KeptAt place effect ≡ became (reading_of t (before_slot log e.slot)) e.value
  pub is_it : e ≡ entry_of t (life_in p i) e.slot place effect e.value

abbrev pub Steps : Setup → List Value → Past → Inc → Did → Type 0
Steps t log p i (Took e) = SlotTaken t log p i e
Steps t log p i (Skips s v) = SkippedAs t log p i s v
Steps t log p i (Enters w) = JoinedAs t log i w
Steps t log p i d = Unit {0}
