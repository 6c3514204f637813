-- None of those so far is the one.
use Rattle.std.proofs.Common.{◌≡◌, drop}
use Rattle.local_sessions.specs.Others.{taken_as}
use Rattle.local_sessions.proofs.leaving.own_taken.Given as goal

abbrev pub invariant-loop-own : goal.invariant-loop-own
invariant-loop-own l = taken_as (drop l.own-index l.taken) l.id ≡ taken_as l.taken l.id
