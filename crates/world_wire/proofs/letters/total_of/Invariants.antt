-- The bytes so far, and of the others.
use Rattle.std.proofs.Common.{◌≡◌, ◌+◌, drop}
use Rattle.group_rules.specs.Script.{total}
use Rattle.world_wire.proofs.letters.total_of.Given as goal

abbrev pub invariant-loop-letter : goal.invariant-loop-letter
invariant-loop-letter l = l.bytes + total (drop l.letter-index l.letters) ≡ total l.letters
