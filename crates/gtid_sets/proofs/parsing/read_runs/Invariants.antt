use Rattle.std.proofs.Common.{◌≡◌, suc, length, None, []}
use Rattle.gtid_sets.specs.Canonical.{IsCanonical}
use Rattle.gtid_sets.specs.Grammar.{runs_in}
use Rattle.gtid_sets.proofs.Scanning.{ReadsOn}
use Rattle.gtid_sets.proofs.parsing.read_runs.Given as goal

abbrev pub invariant-runs : goal.invariant-runs
invariant-runs l = record {
  canonical : IsCanonical l.runs.items;
  total : l.scanner.total ≡ l.fn.scanner.total;
  on : ReadsOn l.fn.scanner.total l.before l.runs.items l.scanner.left (runs_in (suc (length l.fn.scanner.left)) l.fn.scanner.total None [] l.fn.scanner.left);
}

abbrev pub decreases-runs : goal.decreases-runs
decreases-runs l = length l.scanner.left
