use Rattle.std.proofs.Common.{◌∙◌, arith}
use Rattle.member_moment.proofs.Minded.{expels_so}
use Rattle.member_moment.proofs.moment.Moment.expels.Goals as goal

pub returns : goal.returns
returns c = λ base a st. c.is_expelled.ensures ∙ expels_so base a c.args.self.now st c.watch.result.now c.own.result.now c.args.inc c.watch.ensures c.own.ensures (omega arith)
