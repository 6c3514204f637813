-- Of those so far.
use Rattle.std.proofs.Common.{◌≡◌, ℕ, take}
use Rattle.member_backlog.specs.Waiting.{is_below}
use Rattle.member_parts.specs.Committing.{are_done_to}
use Rattle.member_parts.proofs.beginning.least_undone.Given as goal

abbrev pub invariant-loop-queued : goal.invariant-loop-queued
invariant-loop-queued l = (p : ℕ) → are_done_to p (take l.queued-index l.places) ≡ is_below l.undone p
