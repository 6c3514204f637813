-- What is left is added to those so far.
use Rattle.std.proofs.Common.{◌≡◌, drop, fold, map, []}
use Rattle.row_locks.specs.Locking.{session_at, with_loser}
use Rattle.row_locks.specs.Inside.{key_of}
use Rattle.row_locks.proofs.keys.sessions_of_keys.Given as goal

abbrev pub invariant-loop-item : goal.invariant-loop-item
invariant-loop-item l = fold (λ ss i. with_loser ss (session_at (map key_of l.keys.entries) i)) l.sessions.items (drop l.item-index l.items) ≡ fold (λ ss i. with_loser ss (session_at (map key_of l.keys.entries) i)) [] l.items
