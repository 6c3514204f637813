use Rattle.std.proofs.Common.{◌≡◌}
use Rattle.byte_forms.specs.Fields.{field}
use Rattle.key_items.specs.Floors.{passes, left_at}
use Rattle.key_items.proofs.floors.misfit.Given as goal

abbrev pub invariant-loop-more : goal.invariant-loop-more
invariant-loop-more l = left_at (field (passes l.under l.itself l.more) l.more l.rest) ≡ left_at (field (passes l.fn.floor l.itself l.fn.n) l.fn.n l.fn.bytes)

abbrev pub decreases-loop-more : goal.decreases-loop-more
decreases-loop-more l = l.more
