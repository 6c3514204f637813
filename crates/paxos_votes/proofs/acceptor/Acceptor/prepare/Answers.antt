-- What is reported are the votes from the slot on.
use Rattle.std.proofs.Common.{◌≡◌, false, Some, sym, ap, ◌∙◌, List}
use Rattle.std.specs.Prelude.{map, ◌||◌, nat_lt}
use Rattle.gr_ids.specs.Names.{ballot_lt}
use Rattle.slot_values.specs.declared.value.Vote.{Vote}
use Rattle.node_rules.specs.Slots.{from_slot}
use Rattle.paxos_votes.specs.Votes.{vote_of}
use Rattle.paxos_votes.proofs.Votes.{votes_from_is}
use Rattle.paxos_votes.proofs.acceptor.Acceptor.prepare.Goals as goal

pub returns-clause-answer : goal.returns-clause-answer
returns-clause-answer c =
    let kept : (nat_lt c.args.from c.self.inside.low || ballot_lt c.args.ballot c.self.inside.promise) ≡ false = sym c.is_refused.ensures ∙ c.if-is_refused.false in
    let report : c.from_vec.result ≡ from_slot (λ y. y.slot) (map vote_of c.self.inside.votes.entries) c.args.from = c.from_vec.ensures ∙ c.in_ok-votes.ensures ∙ sym (votes_from_is c.self.inside.votes.entries c.args.from) in
    rw (← c.self.view_is, kept) (ap (λ (vs : List Vote). Some vs) report)
