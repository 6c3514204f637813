use Rattle.std.proofs.Common.{refl}
use Rattle.member_moment.proofs.Asked.{fails_once}
use Rattle.member_moment.proofs.moment.Moment.ask_fails.Goals as goal

pub returns-in-Err-NoDonor-clause-failed : goal.returns-in-Err-NoDonor-clause-failed
returns-in-Err-NoDonor-clause-failed c = fails_once c.args.self.now (record c.args.self.now { joining = c.failed.new.self }) refl c.failed.ensures.after

pub returns-in_default-2-clause-failed : goal.returns-in_default-2-clause-failed
returns-in_default-2-clause-failed c = fails_once c.args.self.now (record c.args.self.now { joining = c.failed.new.self }) refl c.failed.ensures.after
