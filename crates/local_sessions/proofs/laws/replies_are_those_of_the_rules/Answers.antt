-- Where the session's transaction stands decides, in the order of the checks.
use Rattle.local_sessions.proofs.Replying.{replied}
use Rattle.local_sessions.proofs.laws.replies_are_those_of_the_rules.Goals as goal

pub returns : goal.returns
returns c xs at a s r f l t = replied xs at a s r f l t
