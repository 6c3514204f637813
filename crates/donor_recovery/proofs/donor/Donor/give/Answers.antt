-- What is kept at the place, and what is certified at or before it.
use Rattle.std.proofs.Common.{List, not, refl, ap, ◌∙◌}
use Rattle.std.specs.Prelude.{filter}
use Rattle.gtid_sets.specs.Sets.{has}
use Rattle.paxos_forms.specs.declared.recovery.Given.{Given}
use Rattle.donor_recovery.specs.Donating.{gtids_given, is_by}
use Rattle.donor_recovery.proofs.Adds.{kept_at, none_at}
use Rattle.donor_recovery.proofs.donor.Donor.give.Goals as goal

pub returns-in_default-clause-err : goal.returns-in_default-clause-err
returns-in_default-clause-err c = (refl, rw (← c.self.view_is) (none_at c.self.inside.adds.entries c.args.ask.now.place c.args.ask.now.place refl c.in_default.ensures))

pub returns-clause-ok : goal.returns-clause-ok
returns-clause-ok c =
    let place = c.args.ask.now.place in
    let found = kept_at c.self.inside.adds.entries place place c.in-Some.at.now refl c.in-Some.ensures in
    let certified = c.in_ok-certified.ensures ∙ ap (λ (gs : List Given). gtids_given (filter (is_by place) gs)) c.deref.ensures.value in
    let lacking = c.in_ok-txns.ensures ∙ ap (λ (gs : List Given). filter (λ (g : Given). not (has c.args.ask.now.executed g.gtid)) (filter (is_by place) gs)) c.deref-2.ensures.value in
    rw (← c.self.view_is, found, c.give_with.ensures, c.in_ok-at.ensures, certified, lacking) refl
