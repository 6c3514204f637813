-- What stays are the proposals from the slot on.
use Rattle.std.proofs.Common.{◌≡◌, List, sym, ap, ◌∙◌}
use Rattle.std.specs.Prelude.{map}
use Rattle.node_rules.specs.Leader.{Leader, Proposal}
use Rattle.node_rules.specs.Slots.{from_slot}
use Rattle.paxos_leader.specs.Parts.{promised_of, proposal_of, offer_of}
use Rattle.paxos_leader.proofs.Proposals.{proposals_from}
use Rattle.paxos_leader.proofs.leader.Leader.forget.Goals as goal

pub returns : goal.returns
returns c =
    let stay : map proposal_of c.forget_below.new.slots.entries ≡ from_slot (λ p. p.slot) (map proposal_of c.self.inside.proposals.entries) c.args.below = ap (map proposal_of) c.forget_below.ensures ∙ sym (proposals_from c.self.inside.proposals.entries c.args.below) in
    rw (← c.self.view_is) (ap (λ (ps : List Proposal). let l : Leader = record { ballot = c.self.inside.ballot; promises = map promised_of c.self.inside.promises.items; proposals = ps; offers = map offer_of c.self.inside.offers.entries } in l) stay)
