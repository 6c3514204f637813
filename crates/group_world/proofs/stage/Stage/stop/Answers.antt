use Rattle.std.proofs.Common.{refl}
use Rattle.group_world.proofs.Halted.{halted}
use Rattle.group_world.proofs.Results.{on_ok}
use Rattle.group_world.proofs.stage.Stage.stop.Goals as goal

pub returns : goal.returns
returns c = on_ok c.stop.result c.stop.ensures (λ h y a.
    halted c.plays_are_runs.ensures.stopped c.args.server y c.args.self.now (record c.args.self.now { sites = c.stop.new.self }) a (h y.world.servers a.holds.rising a.holds.sites) refl refl refl refl refl)
