-- Each one so far is another session's.
use Rattle.std.proofs.Common.{◌≡◌, ◌+◌, not, drop}
use Rattle.std.specs.List.{prefix_len}
use Rattle.local_sessions.specs.Standing.{is_of}
use Rattle.local_sessions.proofs.listing.index_of.Given as goal

abbrev pub invariant-loop-k : goal.invariant-loop-k
invariant-loop-k l = prefix_len (λ x. not (is_of l.session x)) l.list ≡ l.k + prefix_len (λ x. not (is_of l.session x)) (drop l.k l.list)
