use Rattle.std.proofs.Common.{◌≡◌, ◌++◌, length}
use Rattle.std.specs.List.{AllByRecursion, flat_map}
use Rattle.byte_forms.specs.Packs.{Keeps}
use Rattle.gtid_sets.specs.Spelling.{HasCounts}
use Rattle.paxos_forms.specs.Gives.{told_bytes}
use Rattle.paxos_forms.proofs.told_sets.put_each_told.Given as goal

-- with those that are left, all are put
abbrev pub invariant-loop-first : goal.invariant-loop-first
invariant-loop-first l = record {
  whole : l.to ++ flat_map told_bytes l.left ≡ l.fn.to ++ flat_map told_bytes l.told;
  held : AllByRecursion (λ x. HasCounts x.set) l.left → AllByRecursion (λ x. HasCounts x.set) l.told;
  keeps : Keeps l.fn.to l.to;
}

abbrev pub decreases-loop-first : goal.decreases-loop-first
decreases-loop-first l = length l.left
