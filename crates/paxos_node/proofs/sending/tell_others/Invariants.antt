-- What is sent so far, with what is left.
use Rattle.std.proofs.Common.{◌≡◌, ◌++◌, drop}
use Rattle.paxos_node.specs.Notices.{told_to, wire_of}
use Rattle.paxos_node.proofs.sending.tell_others.Given as goal

abbrev pub invariant-loop-inc : goal.invariant-loop-inc
invariant-loop-inc l = l.sent.items ++ told_to l.me (drop l.inc-index l.incs) (wire_of l.notice) ≡ l.initial.sent.items ++ told_to l.me l.incs (wire_of l.notice)
