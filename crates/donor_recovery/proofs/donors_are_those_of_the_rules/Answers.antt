-- Each thing, and what is given.
use Rattle.std.proofs.Common.{refl}
use Rattle.donor_recovery.proofs.Donors.{gives, passes, restores, takes}
use Rattle.donor_recovery.proofs.donors_are_those_of_the_rules.Goals as goal

pub returns-clause-founded : goal.returns-clause-founded
returns-clause-founded c = λ s. record { certified = refl; adds = λ p. refl }

pub returns-clause-taken : goal.returns-clause-taken
returns-clause-taken c = takes

pub returns-clause-restored : goal.returns-clause-restored
returns-clause-restored c = restores

pub returns-clause-passed : goal.returns-clause-passed
returns-clause-passed c = passes

pub returns-clause-gives : goal.returns-clause-gives
returns-clause-gives c = gives
