-- Each call by its reply.
use Rattle.local_sessions.specs.Standing.{session_in}
use Rattle.local_sessions.proofs.Telling.{tells, tells_begun, tells_held, tells_sent, tells_size}
use Rattle.local_sessions.proofs.laws.answers_tell_what_is_done.Goals as goal

pub returns-clause-called : goal.returns-clause-called
returns-clause-called c = λ xs at s r w b e. tells at (session_in xs s) r w b e

pub returns-clause-begun : goal.returns-clause-begun
returns-clause-begun c = λ xs at s v n w h e. tells_begun at (session_in xs s) v n w h e

pub returns-clause-held : goal.returns-clause-held
returns-clause-held c = λ xs at l s v n f e. tells_held xs at l s v n f e

pub returns-clause-sized : goal.returns-clause-sized
returns-clause-sized c = λ xs at s b e. tells_size at (session_in xs s) b e

pub returns-clause-sent : goal.returns-clause-sent
returns-clause-sent c = λ xs at a s b f l t e. tells_sent xs at a s b f l t e
