-- None above is it.
use Rattle.std.proofs.Common.{◌≡◌, ◌≤◌}
use Rattle.group_rules.specs.World.{is_default_of_other}
use Rattle.world_servers.proofs.defaults.is_default_of_other.Given as goal

abbrev pub invariant-loop-other : goal.invariant-loop-other
invariant-loop-other l = (l.other ≤ l.most) × (is_default_of_other l.uuid l.number l.most ≡ is_default_of_other l.uuid l.number l.other)

abbrev pub decreases-loop-other : goal.decreases-loop-other
decreases-loop-other l = l.other
