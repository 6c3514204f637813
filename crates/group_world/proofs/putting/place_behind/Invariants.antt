-- Each one so far isn't above the number.
use Rattle.std.proofs.Common.{◌≡◌, ◌+◌, drop}
use Rattle.group_world.specs.Sites.{under}
use Rattle.group_world.proofs.putting.place_behind.Given as goal

abbrev pub invariant-loop-k : goal.invariant-loop-k
invariant-loop-k l = under l.number l.list ≡ l.k + under l.number (drop l.k l.list)
