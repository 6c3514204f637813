-- The data go to their place.
use Rattle.std.proofs.Common.{List, map, ap, ◌∙◌}
use Rattle.donor_recovery.specs.declared.at_add.AtAdd.{AtAdd}
use Rattle.donor_recovery.specs.Donating.{Donating, with_add}
use Rattle.donor_recovery.specs.Inside.{add_in}
use Rattle.donor_recovery.proofs.Adds.{inserted}
use Rattle.donor_recovery.proofs.donor.Donor.mark.Goals as goal

pub returns-clause-ok : goal.returns-clause-ok
returns-clause-ok c =
    let es = c.self.inside.adds.entries in
    let with : List AtAdd → Donating = λ adds. record { adds = adds; certified = c.self.inside.certified.items } in
    rw (← c.self.view_is) (ap with (ap (map add_in) c.in_ok-insert.ensures.entries ∙ (inserted es c.key_of.result c.args.at ∙ ap (λ k. with_add (map add_in es) (add_in (k, c.args.at))) c.key_of.ensures)))
