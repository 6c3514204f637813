-- Those that are left decide after those so far.
use Rattle.std.proofs.Common.{◌≡◌, drop}
use Rattle.key_items.specs.declared.item.Item.{Item}
use Rattle.row_locks.specs.Locking.{session_at}
use Rattle.local_sessions.specs.Others.{unless_killed}
use Rattle.local_sessions.proofs.losing.free_losers.Given as goal

abbrev pub invariant-loop-session : goal.invariant-loop-session
invariant-loop-session l = record {
  keys : (j : Item) → unless_killed l.list (drop l.session-index l.losers) (session_at l.locks.keys j) ≡ unless_killed l.list l.losers (session_at l.initial.locks.keys j);
  places : l.locks.places ≡ l.initial.locks.places;
}
