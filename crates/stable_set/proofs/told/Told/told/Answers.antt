-- The set goes to its incarnation.
use Rattle.std.proofs.Common.{map, ap, ◌∙◌}
use Rattle.stable_set.specs.Entries.{told_in}
use Rattle.stable_set.proofs.ToldMaps.{inserted}
use Rattle.stable_set.proofs.told.Told.told.Goals as goal

pub returns-clause-ok : goal.returns-clause-ok
returns-clause-ok c = rw (← c.self.view_is) (ap (map told_in) c.in_ok-insert.ensures.entries ∙ inserted c.self.inside.sets.entries c.args.inc c.args.set)
