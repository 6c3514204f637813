-- The messages so far.
use Rattle.std.proofs.Common.{◌≡◌, map}
use Rattle.group_rules.specs.Script.{letter}
use Rattle.world_wire.proofs.letters.letters_of.Given as goal

abbrev pub invariant-loop-message : goal.invariant-loop-message
invariant-loop-message l = l.letters.items ≡ map letter l.yielded
