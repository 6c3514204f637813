-- Those so far, with those of the members that are left.
use Rattle.std.proofs.Common.{◌≡◌, ◌++◌, map, drop}
use Rattle.group_rules.specs.Certifier.{numbers_of}
use Rattle.certifier.specs.Inside.{last_in}
use Rattle.certifier.proofs.copying.copied_last.Given as goal

abbrev pub invariant-loop-inc : goal.invariant-loop-inc
invariant-loop-inc l = l.numbers.items ++ numbers_of (map last_in l.last.entries) (drop l.inc-index l.members) ≡ numbers_of (map last_in l.last.entries) l.members
