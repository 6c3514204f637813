-- One set more is put in.
use Rattle.stable_set.proofs.ToldMaps.{told_more}
use Rattle.stable_set.proofs.told.by_incarnation.Goals as goal

pub loop-set-preserved-in_ok-insert : goal.loop-set-preserved-in_ok-insert
loop-set-preserved-in_ok-insert c = told_more c.loop-set.told.entries c.insert.new.self.entries c.in-Some.set c.loop-set.yielded c.in_ok-insert.ensures.entries c.loop-set.invariant

pub loop-set-preserved : goal.loop-set-preserved
loop-set-preserved c = told_more c.loop-set.told.entries c.insert.new.self.entries c.in-Some.set c.loop-set.yielded c.in_ok-insert.ensures.entries c.loop-set.invariant
