-- The rows so far, and those that are left.
use Rattle.std.proofs.Common.{◌≡◌, ◌++◌, map}
use Rattle.row_store.specs.Chains.{rows_of}
use Rattle.row_store.specs.Inside.{chain_of}
use Rattle.row_store.proofs.rows.with_rows.Given as goal

abbrev pub invariant-loop-item : goal.invariant-loop-item
invariant-loop-item l = l.rows.items ++ rows_of (map chain_of l.item-iterator) ≡ rows_of (map chain_of l.chains.entries)
