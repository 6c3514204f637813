-- One number more is put in.
use Rattle.certifier.proofs.LastMaps.{told_next}
use Rattle.certifier.proofs.copying.last_by_origin.Goals as goal

pub loop-told-preserved : goal.loop-told-preserved
loop-told-preserved c = told_next c.args.numbers.now c.loop-told.told-index _ c.loop-told.last.entries c.insert.new.self.entries _ c.loop-told-test.true c.in_ok-insert.ensures.entries c.loop-told.invariant
