use Rattle.std.proofs.Common.{◌≡◌, ℕ, ◌≤◌, ◌<◌, true, length, take}
use Rattle.gtid_sets.specs.Spelling.{begins_uuid}
use Rattle.gtid_sets.proofs.UuidTakes.{padded}
use Rattle.gtid_sets.proofs.taking.read_uuid_above.Given as goal

abbrev pub invariant-loop-i : goal.invariant-loop-i
invariant-loop-i l = record {
  read : l.greatest ≡ padded l.bytes l.i;
  within : l.i ≤ length l.bytes;
  begins : (j : ℕ) → 0 < j → j ≤ l.i → begins_uuid l.before (take j l.bytes) ≡ true;
}
