use Rattle.std.proofs.Common.{◌≡◌, sym}
use Rattle.txn_forms.proofs.Indexes.{index_at}
use Rattle.txn_forms.proofs.changes.index_of.Goals as goal

pub returns-clause-is : goal.returns-clause-is
returns-clause-is c = sym (index_at c.args.items.now c.args.change.now.item c.in-Some.at c.in-Some.ensures.ascend c.in-Some.ensures.at.1)
