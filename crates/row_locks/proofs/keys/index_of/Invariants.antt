-- Each one so far is less.
use Rattle.std.proofs.Common.{◌≡◌, ◌+◌, drop}
use Rattle.std.specs.Prelude.{nat_lt}
use Rattle.std.specs.List.{prefix_len}
use Rattle.row_locks.proofs.keys.index_of.Given as goal

abbrev pub invariant-loop-k : goal.invariant-loop-k
invariant-loop-k l = prefix_len (λ s. nat_lt s l.session) l.sessions ≡ l.k + prefix_len (λ s. nat_lt s l.session) (drop l.k l.sessions)
