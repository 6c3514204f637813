-- What is told of the parts without a walk.
use Rattle.std.specs.Prelude.{Bool, ◌&&◌, ◌||◌}
use Rattle.gtid_sets.specs.Sets.{subset}
use Rattle.apply_queue.specs.Queues.{front_waits}
use Rattle.member_parts.specs.declared.parts.MemberParts.{MemberParts}
use Rattle.member_parts.specs.Remote.{none_waits}

-- no own transaction waits, and the first of the queue isn't done: none may be committed
abbrev pub commits_none : MemberParts → Bool
commits_none x = none_waits x.own && front_waits x.remotes.queue

-- the first of the queue isn't done, or each transaction that requires this member has its Prepared entry sent: none is owed
abbrev pub prepares_none : MemberParts → Bool
prepares_none x = front_waits x.remotes.queue || subset x.required x.sent
