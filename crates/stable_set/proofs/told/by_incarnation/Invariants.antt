-- Those so far, put in one after another.
use Rattle.std.proofs.Common.{◌≡◌, [], map}
use Rattle.std.specs.Prelude.{fold}
use Rattle.group_rules.specs.Told.{with_told}
use Rattle.stable_set.specs.Entries.{told_in}
use Rattle.stable_set.proofs.told.by_incarnation.Given as goal

abbrev pub invariant-loop-set : goal.invariant-loop-set
invariant-loop-set l = map told_in l.told.entries ≡ fold with_told [] l.yielded
