-- The first law of a legal run: one ordered list.
use Rattle.std.specs.Prelude.{◌≡◌, Some, List}
use Rattle.group_rules.specs.Events.{Setup}
use Rattle.group_rules.specs.Legal.{OneOrderedList}
use Rattle.group_rules.specs.World.{Move, world_after}
use Rattle.group_runs.specs.Runs.{IsSetup}
use Rattle.group_order.specs.OneLog.{OneLogOf}

-- every run has its one log, whose list is the ordered one
abbrev pub EveryRunIsOrdered : Type 0
EveryRunIsOrdered = (ms : List Move) (t : Setup) → (world_after ms).setup ≡ Some t → IsSetup t
    → (one : OneLogOf t (world_after ms).past) × OneOrderedList t one.parts.log (world_after ms).past
