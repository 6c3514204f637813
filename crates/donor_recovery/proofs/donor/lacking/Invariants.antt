-- Those so far, with those that are left.
use Rattle.std.proofs.Common.{◌≡◌, ◌++◌, not, drop}
use Rattle.std.specs.Prelude.{filter}
use Rattle.gtid_sets.specs.Sets.{has}
use Rattle.donor_recovery.specs.Donating.{is_by}
use Rattle.donor_recovery.proofs.donor.lacking.Given as goal

abbrev pub invariant-loop-given : goal.invariant-loop-given
invariant-loop-given l = l.txns.items ++ filter (λ g. not (has l.executed g.gtid)) (filter (is_by l.place) (drop l.given-index l.certified)) ≡ filter (λ g. not (has l.executed g.gtid)) (filter (is_by l.place) l.certified)
