-- What the map has for the incarnation.
use Rattle.std.proofs.Common.{Some, None, ap, sym, ◌∙◌}
use Rattle.gtid_sets.specs.Sets.{Gtids, has}
use Rattle.stable_set.proofs.ToldMaps.{last_is}
use Rattle.stable_set.proofs.told.Told.has.Goals as goal

pub returns-in-Some : goal.returns-in-Some
returns-in-Some c = rw (← c.self.view_is) (c.contains.ensures ∙ ap (λ (s : Gtids). has s c.args.gtid) (sym (last_is c.self.inside.sets.entries c.args.inc (Some c.in-Some.set.now) c.in-Some.ensures.value)))

pub returns-in-None : goal.returns-in-None
returns-in-None c = rw (← c.self.view_is) (ap (λ (s : Gtids). has s c.args.gtid) (sym (last_is c.self.inside.sets.entries c.args.inc None c.in-None.ensures.value)))
