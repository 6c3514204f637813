-- What is left decides after what is known so far.
use Rattle.std.proofs.Common.{◌≡◌, drop}
use Rattle.row_store.specs.Presence.{is_there}
use Rattle.row_store.proofs.presence.is_there_after.Given as goal

abbrev pub invariant-loop-change : goal.invariant-loop-change
invariant-loop-change l = is_there l.item l.there (drop l.change-index l.own) ≡ is_there l.item l.fn.there l.own
