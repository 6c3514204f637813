-- No slot so far has a Remove of the incarnation.
use Rattle.std.proofs.Common.{◌≡◌}
use Rattle.std.specs.List.{list_any}
use Rattle.node_rules.specs.Learner.{removes}
use Rattle.paxos_votes.specs.Entries.{entries_from}
use Rattle.paxos_votes.proofs.learner.has_remove_from.Given as goal

abbrev pub invariant-loop-value : goal.invariant-loop-value
invariant-loop-value l = list_any (λ e. removes l.inc e.1.what) l.value-iterator ≡ list_any (λ e. removes l.inc e.1.what) (entries_from l.from l.decided.entries)
