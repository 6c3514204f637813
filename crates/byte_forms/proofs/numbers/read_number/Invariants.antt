use Rattle.std.proofs.Common.{◌≡◌, ℕ, ◌<◌, ◌≤◌, true, length, take}
use Rattle.byte_forms.specs.Numbers.{number_of}
use Rattle.byte_forms.specs.Fields.{begins_number}
use Rattle.byte_forms.proofs.numbers.read_number.Given as goal

abbrev pub invariant-loop-i : goal.invariant-loop-i
invariant-loop-i l = record {
  in_order : l.low ≤ l.high;
  within : l.i ≤ length l.bytes;
  value : l.value ≡ number_of (take l.i l.bytes);
  passes : (j : ℕ) → 0 < j → j ≤ l.i → begins_number l.width l.low l.high (take j l.bytes) ≡ true;
}
