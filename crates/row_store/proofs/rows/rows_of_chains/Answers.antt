-- The keys of the map ascend, so the rows do.
use Rattle.row_store.proofs.RowOrder.{rows_ascend, rows_listed}
use Rattle.row_store.proofs.rows.rows_of_chains.Goals as goal

pub returns-clause-ascend : goal.returns-clause-ascend
returns-clause-ascend c = rw c.in_ok-rows.ensures (rows_ascend c.args.chains.now.entries c.len.ensures.ordered)

pub returns-clause-listed : goal.returns-clause-listed
returns-clause-listed c = λ i. rw c.in_ok-rows.ensures (rows_listed c.args.chains.now.entries i c.len.ensures.ordered)
