-- What the calls ask is within the step's ranges.
use Rattle.std.proofs.Common.{subst, sym}
use Rattle.group_world.specs.Standing.{Along}
use Rattle.group_world.proofs.Fitting.{asked_fits, once_fits, session_fits}
use Rattle.group_world.proofs.Unmoved.{moves_not}
use Rattle.group_world.proofs.stage.Stage.moves.Goals as goal

pub session-requires : goal.session-requires
session-requires c = session_fits c.args.step _ _ c.in-Session.what c.requires c.in-Session.is

pub once-requires : goal.once-requires
once-requires c = once_fits c.args.step _ _ c.in-Once.change c.requires c.in-Once.is

pub operate-requires : goal.operate-requires
operate-requires c = asked_fits c.args.step _ c.in-Operate.what c.requires c.in-Operate.is

pub returns : goal.returns
returns c = record {
  stands = λ y a. subst (λ p. Along p c.args.self.now) (sym (moves_not c.args.step y c.in_default.not-Session c.in_default.not-Once c.in_default.not-Operate c.in_default.not-Deliver c.in_default.not-Lose c.in_default.not-Settle c.in_default.not-Work c.in_default.not-Drain c.in_default.not-Tick c.in_default.not-Finish)) a;
  full = tt;
}
