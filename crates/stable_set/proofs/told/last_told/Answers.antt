-- What the map has for the incarnation.
use Rattle.std.proofs.Common.{Some, None, sym, ◌∙◌}
use Rattle.stable_set.proofs.ToldMaps.{last_is}
use Rattle.stable_set.proofs.told.last_told.Goals as goal

pub returns-in-Some : goal.returns-in-Some
returns-in-Some c = rw (last_is c.args.told.now.entries c.args.inc (Some c.in-Some.set.now) c.in-Some.ensures.value) c.try_copy.ensures

pub returns-in-None : goal.returns-in-None
returns-in-None c = c.new.ensures ∙ sym (last_is c.args.told.now.entries c.args.inc None c.in-None.ensures.value)
