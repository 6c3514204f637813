use Rattle.std.proofs.Common.{◌∙◌}
use Rattle.gtid_sets.proofs.Keys.{array_lt}
use Rattle.gtid_sets.proofs.run.Run.ends_first.Goals as goal

pub returns : goal.returns
returns c = rw (← c.if-eq.ensures) (c.lt.ensures ∙ array_lt c.args.self.now.source c.args.other.now.source)
