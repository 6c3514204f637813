-- What is sent so far, with what is left.
use Rattle.std.proofs.Common.{◌≡◌, ◌++◌, drop}
use Rattle.std.specs.Prelude.{flat_map}
use Rattle.paxos_node.specs.Notices.{accepts_to}
use Rattle.paxos_node.proofs.ticking.send_accepts.Given as goal

abbrev pub invariant-loop-one : goal.invariant-loop-one
invariant-loop-one l = l.sent.items ++ flat_map (accepts_to l.me l.ballot) (drop l.one-index l.missing) ≡ l.initial.sent.items ++ flat_map (accepts_to l.me l.ballot) l.missing
