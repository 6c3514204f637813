-- Sets that ascend stand as they are told.
use Rattle.std.proofs.Common.{[], ap, ◌∙◌}
use Rattle.std.specs.Prelude.{fold}
use Rattle.group_rules.specs.Told.{with_told}
use Rattle.stable_set.proofs.ToldLists.{told_as_they_are}
use Rattle.stable_set.proofs.told.Told.restore.Goals as goal

pub returns : goal.returns
returns c = c.in_ok-by_incarnation.ensures ∙ (ap (fold with_told []) c.into_vec.ensures ∙ told_as_they_are c.args.sets c.requires)
