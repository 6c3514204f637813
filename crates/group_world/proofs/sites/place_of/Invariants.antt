-- None of those so far is it.
use Rattle.std.proofs.Common.{◌≡◌, ◌+◌, drop}
use Rattle.group_world.specs.Sites.{before}
use Rattle.group_world.proofs.sites.place_of.Given as goal

abbrev pub invariant-loop-k : goal.invariant-loop-k
invariant-loop-k l = before l.number l.list ≡ l.k + before l.number (drop l.k l.list)
