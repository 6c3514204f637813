-- What was told so far is sent.
use Rattle.std.proofs.Common.{◌≡◌, ◌++◌}
use Rattle.std.specs.Prelude.{map}
use Rattle.paxos_node.specs.Notices.{learn_of}
use Rattle.paxos_node.proofs.learning.send_learns.Given as goal

abbrev pub invariant-loop-one : goal.invariant-loop-one
invariant-loop-one l = l.sent.items ≡ l.initial.sent.items ++ map (learn_of l.me l.to) l.yielded
