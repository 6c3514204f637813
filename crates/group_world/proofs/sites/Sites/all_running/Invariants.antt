-- Those so far, with those left, are all.
use Rattle.std.proofs.Common.{◌≡◌, ◌++◌, List, length}
use Rattle.group_rules.specs.World.{Server}
use Rattle.group_world.specs.Running.{running_incs}
use Rattle.group_world.specs.Sites.{AreSites}
use Rattle.group_world.proofs.sites.Sites.all_running.Given as goal

abbrev pub invariant-loop-site : goal.invariant-loop-site
invariant-loop-site l = (ss : List Server) → AreSites ss l.fn.self → (ts : List Server) × AreSites ts l.left × (l.incs.items ++ running_incs ts ≡ running_incs ss)

abbrev pub decreases-loop-site : goal.decreases-loop-site
decreases-loop-site l = length l.left
