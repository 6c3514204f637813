-- It stands at its place, which is the last one where none is above it.
use Rattle.std.proofs.Common.{◌≡◌, ◌≤◌, List, map, ap, sym, ◌∙◌, arith, subst}
use Rattle.std.proofs.lemmas.Bool.{ltb-false}
use Rattle.paxos_forms.specs.declared.recovery.Given.{Given}
use Rattle.donor_recovery.specs.Donating.{Donating, with_given}
use Rattle.donor_recovery.specs.Inside.{add_in}
use Rattle.donor_recovery.proofs.Places.{Keeps, either_keeps, given_last, keeps_with}
use Rattle.donor_recovery.proofs.donor.Donor.certified.Goals as goal

pub invariant_of-self : goal.invariant_of-self
invariant_of-self c =
    let i = c.self.inside in
    either_keeps c.insert_given.result c.insert_given.new.certified.items (with_given i.certified.items c.args.given) i.certified.items i.greatest c.insert_given.ensures.ok c.insert_given.ensures.err
    (keeps_with i.certified.items c.args.given i.greatest i.greatest c.self.invariant c.requires (omega arith) (omega arith)) c.self.invariant

pub invariant_of-self-2 : goal.invariant_of-self-2
invariant_of-self-2 c =
    let i = c.self.inside in
    let place = c.key_of-place.result in
    let above : i.greatest ≤ place = omega (arith, ltb-false) in
    let placed : c.push.new.self.items ≡ with_given i.certified.items c.args.given = c.in_ok-push.ensures.items ∙ sym (given_last i.certified.items c.args.given i.greatest c.self.invariant.1 (omega (arith, above, c.key_of-place.ensures))) in
    subst (Keeps place) (sym placed) (keeps_with i.certified.items c.args.given i.greatest place c.self.invariant c.requires above (omega (arith, c.key_of-place.ensures)))

pub returns-clause-ok : goal.returns-clause-ok
returns-clause-ok c =
    let i = c.self.inside in
    let above : i.greatest ≤ c.key_of-place.result = omega (arith, ltb-false) in
    let placed : c.push.new.self.items ≡ with_given i.certified.items c.args.given = c.in_ok-push.ensures.items ∙ sym (given_last i.certified.items c.args.given i.greatest c.self.invariant.1 (omega (arith, above, c.key_of-place.ensures))) in
    let with : List Given → Donating = λ gs. record { adds = map add_in i.adds.entries; certified = gs } in
    rw (← c.self.view_is) (ap with placed)
