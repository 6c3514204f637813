use Rattle.std.proofs.Common.{length}
use Rattle.std.specs.List.{AllByRecursion}
use Rattle.key_items.specs.Spelling.{AreBytes}
use Rattle.paxos_forms.proofs.fits.kept_items_fit.Given as goal

-- where those that are left are bytes, all are
abbrev pub invariant-loop-first : goal.invariant-loop-first
invariant-loop-first l = AllByRecursion (λ k. AreBytes k.item) l.left → AllByRecursion (λ k. AreBytes k.item) l.kept

abbrev pub decreases-loop-first : goal.decreases-loop-first
decreases-loop-first l = length l.left
