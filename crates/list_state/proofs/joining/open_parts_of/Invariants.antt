-- Those so far, with those of the origins that are left.
use Rattle.std.proofs.Common.{◌≡◌, ◌++◌, drop}
use Rattle.list_state.specs.Joining.{parts_in}
use Rattle.list_state.proofs.joining.open_parts_of.Given as goal

abbrev pub invariant-loop-origin : goal.invariant-loop-origin
invariant-loop-origin l = l.copies.items ++ parts_in l.parts (drop l.origin-index l.origins) ≡ parts_in l.parts l.origins
