use Rattle.std.proofs.Common.{◌≡◌, take}
use Rattle.txn_forms.proofs.copies.copied.Given as goal

abbrev pub invariant-loop-held : goal.invariant-loop-held
invariant-loop-held l = l.copy.items ≡ take l.held-index l.parts
