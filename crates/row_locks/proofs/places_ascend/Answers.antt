-- A place goes where it belongs, and what is left still ascends.
use Rattle.std.proofs.Common.{not}
use Rattle.std.specs.Prelude.{◌==◌}
use Rattle.row_locks.specs.Locking.{DonePlace}
use Rattle.row_locks.proofs.Places.{ascend_with, ascend_filter}
use Rattle.row_locks.proofs.places_ascend.Goals as goal

pub returns-clause-put : goal.returns-clause-put
returns-clause-put c ds d h = ascend_with ds d h

pub returns-clause-taken : goal.returns-clause-taken
returns-clause-taken c ds p h = ascend_filter (λ (d : DonePlace). not (d.place == p)) ds h
