-- Those so far, with those of the members that are left.
use Rattle.std.proofs.Common.{◌≡◌, ◌++◌, map, drop}
use Rattle.group_rules.specs.Told.{sets_of}
use Rattle.stable_set.specs.Entries.{told_in}
use Rattle.stable_set.proofs.told.Told.sets.Given as goal

abbrev pub invariant-loop-inc : goal.invariant-loop-inc
invariant-loop-inc l = l.sets.items ++ sets_of (map told_in l.self-inside.sets.entries) (drop l.inc-index l.online) ≡ sets_of (map told_in l.self-inside.sets.entries) l.online
