-- The least worker is among those left.
use Rattle.std.proofs.Common.{◌≡◌, List, length}
use Rattle.group_rules.specs.Script.{least_worker}
use Rattle.group_rules.specs.World.{Server}
use Rattle.group_world.specs.Sites.{AreSites}
use Rattle.group_world.proofs.sites.Sites.least_worker.Given as goal

abbrev pub invariant-loop-site : goal.invariant-loop-site
invariant-loop-site l = (ss : List Server) → AreSites ss l.fn.self → (ts : List Server) × AreSites ts l.left × (least_worker ts ≡ least_worker ss)

abbrev pub decreases-loop-site : goal.decreases-loop-site
decreases-loop-site l = length l.left
