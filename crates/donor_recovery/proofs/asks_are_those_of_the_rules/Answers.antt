-- What each event leaves.
use Rattle.std.proofs.Common.{suc, refl, ap}
use Rattle.donor_recovery.proofs.asks_are_those_of_the_rules.Goals as goal

pub returns-clause-asked : goal.returns-clause-asked
returns-clause-asked c r l d f = record { executed = f.executed; pending = refl; failures = f.failures; has_give = f.has_give }

pub returns-clause-failed : goal.returns-clause-failed
returns-clause-failed c r l f = record { executed = f.executed; pending = refl; failures = ap suc f.failures; has_give = f.has_give }

pub returns-clause-taken : goal.returns-clause-taken
returns-clause-taken c r l g cs f = record { executed = f.executed; pending = refl; failures = f.failures; has_give = refl }

pub returns-clause-due : goal.returns-clause-due
returns-clause-due c r a f e = rw (e, ← f.pending, ← f.has_give, ← f.failures) refl
