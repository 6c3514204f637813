-- Its lines, its members and its messages.
use Rattle.group_world.proofs.Reported.{reported}
use Rattle.group_world.proofs.world.World.report.Goals as goal

pub returns : goal.returns
returns c y w = reported c.args.lines c.sent.result y c.args.self.now c.in_ok-reports.field-0 w c.in_ok-reports.ensures c.sent.ensures
