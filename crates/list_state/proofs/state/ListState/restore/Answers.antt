-- Lists of a Give ascend.
use Rattle.std.proofs.Common.{None}
use Rattle.list_state.proofs.Joined.{items_ascend, told_ascend}
use Rattle.list_state.proofs.state.ListState.restore.Goals as goal

pub restore-requires-clause-ascending : goal.restore-requires-clause-ascending
restore-requires-clause-ascending c = items_ascend c.args.at.place None c.args.at.items c.requires.items

pub restore-requires-2 : goal.restore-requires-2
restore-requires-2 c = told_ascend None c.args.at.told c.requires.told
