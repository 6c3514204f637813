-- Who is named, one more that is done, one that is committed.
use Rattle.local_sessions.proofs.Certified.{queued}
use Rattle.local_sessions.proofs.FallFrees.{emptied}
use Rattle.local_sessions.proofs.Queued.{named, none, passed, taken, done, freed}
use Rattle.local_sessions.proofs.laws.places_follow_their_queue.Goals as goal

pub returns-clause-named : goal.returns-clause-named
returns-clause-named c l i cs = named l i cs

pub returns-clause-done : goal.returns-clause-done
returns-clause-done c l p x cs k e n = done l p x cs k e n

pub returns-clause-freed : goal.returns-clause-freed
returns-clause-freed c l p cs = freed l p cs

pub returns-clause-none : goal.returns-clause-none
returns-clause-none c l cs h = none l cs h

pub returns-clause-passed : goal.returns-clause-passed
returns-clause-passed c l d cs h = passed l d cs h

pub returns-clause-taken : goal.returns-clause-taken
returns-clause-taken c l cs x n = taken l cs x n

pub returns-clause-fallen : goal.returns-clause-fallen
returns-clause-fallen c a x me = emptied a x me

pub returns-clause-queued : goal.returns-clause-queued
returns-clause-queued c l me p x k e = queued l me p x k e
