-- Of a transaction the effect alone decides.
use Rattle.list_state.proofs.taking.is_quiet.Goals as goal

pub returns-in-Txn : goal.returns-in-Txn
returns-in-Txn c = rw c.in-Txn.is (c.brings_nothing.ensures c.in-Txn.field-0 c.in-Txn.field-1)
