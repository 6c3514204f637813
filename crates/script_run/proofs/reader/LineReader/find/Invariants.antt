use Rattle.std.proofs.Common.{◌-◌, ◌≤◌, length}
use Rattle.script_run.specs.Reading.{Reads}
use Rattle.script_run.proofs.reader.LineReader.find.Given as goal

abbrev pub invariant-loop-held : goal.invariant-loop-held
invariant-loop-held g l = record {
  reads : Reads (g.S.Source.left l.fn.source) (g.S.Source.left l.source) l.fn.self l.self;
  faults : g.S.Source.faults l.fn.source ≤ g.S.Source.faults l.source;
}

abbrev pub decreases-loop-held : goal.decreases-loop-held
decreases-loop-held g l = 65538 - length l.self
