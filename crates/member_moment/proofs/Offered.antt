-- The Add of a joiner is sent to its contact.
use Rattle.std.proofs.Common.{sym, subst}
use Rattle.gr_ids.specs.declared.names.Inc.{Inc}
use Rattle.slot_values.specs.Spelling.{IsValue}
use Rattle.slot_values.specs.declared.value.Joiner.{Joiner}
use Rattle.paxos_forms.specs.Messages.{IsMessage}
use Rattle.paxos_forms.specs.declared.message.Wire.TheVariants.{Offer}
use Rattle.node_rules.specs.Node.{message}
use Rattle.group_rules.specs.Member.{Member, send}
use Rattle.group_rules.specs.Steps.{add_of}
use Rattle.member_ranges.specs.Ranges.{InRange}
use Rattle.member_moment.specs.declared.moment.Moment.{Moment}
use Rattle.member_moment.specs.Doing.{Does, DoesIf}
use Rattle.member_moment.specs.Standing.{Stands}

pub offers_so : (x z : Moment) → ((a : Member) → InRange a → IsValue (add_of a.me))
    → DoesIf (λ a. IsMessage (message a.node x.contact (Offer (add_of x.me)))) (send x.contact (Offer (add_of x.me))) x z → Does (λ a. send a.contact (Offer (add_of a.me)) a) x z
offers_so x z spelt d base a k st =
    let r = st.rest in
    let is : IsMessage (message a.node a.contact (Offer (add_of a.me))) = record { from = r.range.node.me; to = r.range.contact; wire = spelt a r.range } in
    let there : IsMessage (message a.node x.contact (Offer (add_of a.me))) = subst (λ (i : Inc). IsMessage (message a.node i (Offer (add_of a.me)))) (sym r.contact) is in
    let so : IsMessage (message a.node x.contact (Offer (add_of x.me))) = subst (λ (j : Joiner). IsMessage (message a.node x.contact (Offer (add_of j)))) (sym r.me) there in
    subst (λ (j : Joiner). Stands base (send a.contact (Offer (add_of j)) a) z) r.me (subst (λ (i : Inc). Stands base (send i (Offer (add_of x.me)) a) z) r.contact (d base a so k st))
