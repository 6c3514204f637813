use Rattle.std.proofs.Common.{◌≡◌, ◌++◌, ◌∷◌, [], ◌-◌, length, drop}
use Rattle.gtid_sets.specs.Sets.{Gtids, minus}
use Rattle.gtid_sets.specs.Canonical.{IsRun, IsBefore, IsCanonical}
use Rattle.gtid_sets.proofs.parts.push_remaining.Given as goal

abbrev pub invariant-loop-j : goal.invariant-loop-j
invariant-loop-j l = record {
  rest : IsRun l.rest;
  source : l.rest.source ≡ l.fn.run.source;
  end : l.rest.last ≡ l.fn.run.last;
  added : l.runs.items ++ minus (l.rest ∷ []) (drop l.j l.cuts) ≡ l.initial.runs.items ++ minus (l.fn.run ∷ []) (drop l.from l.cuts);
  later : (behind : Gtids) → IsBefore l.fn.run behind → IsCanonical behind → minus behind (drop l.j l.cuts) ≡ minus behind (drop l.from l.cuts);
}

abbrev pub decreases-loop-j : goal.decreases-loop-j
decreases-loop-j l = length l.cuts - l.j
