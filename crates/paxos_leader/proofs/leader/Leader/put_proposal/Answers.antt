-- The proposal goes to its place.
use Rattle.std.proofs.Common.{◌≡◌, List, [], ap, ◌∙◌}
use Rattle.std.specs.Prelude.{map}
use Rattle.gr_ids.specs.declared.names.Inc.{Inc}
use Rattle.node_rules.specs.Leader.{Leader, Proposal}
use Rattle.paxos_leader.specs.declared.leader.Proposed.{Proposed}
use Rattle.paxos_leader.specs.Parts.{promised_of, proposal_of, offer_of}
use Rattle.paxos_leader.proofs.Proposals.{proposals_put, with_one}
use Rattle.paxos_leader.proofs.leader.Leader.put_proposal.Goals as goal

pub returns-clause-ok : goal.returns-clause-ok
returns-clause-ok c =
    let v : Proposed = record { value = c.args.value; accepted = c.new-accepted.result } in
    let one = λ (is : List Inc). let p : Proposal = record { slot = c.args.slot; value = c.args.value; accepted = is } in p in
    let put : map proposal_of c.insert.new.self.entries ≡ with_one c.self.inside.proposals.entries (one []) =
    ap (map proposal_of) c.in_ok-insert.ensures.entries ∙ proposals_put c.self.inside.proposals.entries c.args.slot v ∙ ap (λ (is : List Inc). with_one c.self.inside.proposals.entries (one is)) c.new-accepted.ensures.items in
    rw (← c.self.view_is) (ap (λ (ps : List Proposal). let l : Leader = record { ballot = c.self.inside.ballot; promises = map promised_of c.self.inside.promises.items; proposals = ps; offers = map offer_of c.self.inside.offers.entries } in l) put)
