-- Those that are left free what those so far left.
use Rattle.std.proofs.Common.{◌≡◌, drop}
use Rattle.key_items.specs.declared.item.Item.{Item}
use Rattle.row_locks.specs.Locking.{session_at}
use Rattle.local_sessions.specs.Others.{without_told}
use Rattle.member_tables.proofs.leaving.free_told.Given as goal

abbrev pub invariant-loop-answered : goal.invariant-loop-answered
invariant-loop-answered l = record {
  keys : (j : Item) → without_told (drop l.answered-index l.told) (session_at l.locks.keys j) ≡ without_told l.told (session_at l.initial.locks.keys j);
  places : l.locks.places ≡ l.initial.locks.places;
}
