-- The value is that of the slot's proposal.
use Rattle.std.proofs.Common.{Option, sym, ap, ◌∙◌}
use Rattle.std.specs.Prelude.{option_map}
use Rattle.node_rules.specs.Leader.{Proposal}
use Rattle.paxos_leader.specs.declared.leader.Proposed.{Proposed}
use Rattle.paxos_leader.proofs.Proposals.{at_one, proposal_is}
use Rattle.paxos_leader.proofs.leader.Leader.proposal.Goals as goal

pub returns-in-Some : goal.returns-in-Some
returns-in-Some c = rw (← c.self.view_is) (ap (λ (o : Option Proposed). option_map (λ (p : Proposal). p.value) (at_one c.args.slot o)) c.in-Some.ensures.value ∙ ap (option_map (λ (p : Proposal). p.value)) (sym (proposal_is c.self.inside.proposals.entries c.args.slot)))

pub returns-in-None : goal.returns-in-None
returns-in-None c = rw (← c.self.view_is) (ap (λ (o : Option Proposed). option_map (λ (p : Proposal). p.value) (at_one c.args.slot o)) c.in-None.ensures.value ∙ ap (option_map (λ (p : Proposal). p.value)) (sym (proposal_is c.self.inside.proposals.entries c.args.slot)))
