-- The main law: every run of the group is legal.
use Rattle.std.specs.Prelude.{◌≡◌, Some, List}
use Rattle.node_rules.specs.Lists.{In}
use Rattle.group_rules.specs.Events.{Setup}
use Rattle.group_rules.specs.Legal.{IsLegal}
use Rattle.group_rules.specs.World.{Move, world_after}
use Rattle.group_runs.specs.Runs.{IsSetup}
use Rattle.group_runs.specs.Servers.{IsMove}
use Rattle.group_legal.specs.Ranges.{HasSmallNumbers}
use Rattle.group_legal.specs.OwnRanges.{MadeInRange}

-- whatever the moves, where what is made and numbered stays within the ranges of its forms
abbrev pub EveryRunIsLegal : Type 0
EveryRunIsLegal = (ms : List Move) (t : Setup) → (world_after ms).setup ≡ Some t → IsSetup t → ((m : Move) → In m ms → IsMove m)
    → HasSmallNumbers (world_after ms).past → MadeInRange (world_after ms).past → IsLegal t (world_after ms).past
