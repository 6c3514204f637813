-- The vote goes to its place, beside the new promise.
use Rattle.std.proofs.Common.{◌≡◌, false, sym, ap, ◌∙◌, List}
use Rattle.std.specs.Prelude.{map, ◌||◌, nat_lt}
use Rattle.gr_ids.specs.Names.{ballot_lt}
use Rattle.node_rules.specs.Acceptor.{Acceptor}
use Rattle.node_rules.specs.Slots.{put_slot}
use Rattle.slot_values.specs.declared.value.Vote.{Vote}
use Rattle.slot_values.specs.declared.value.Value.{Value}
use Rattle.paxos_votes.specs.declared.acceptor.Voted.{Voted}
use Rattle.paxos_votes.specs.Votes.{vote_of}
use Rattle.paxos_votes.proofs.Votes.{votes_put}
use Rattle.paxos_votes.proofs.acceptor.Acceptor.accept.Goals as goal

pub returns-clause-vote : goal.returns-clause-vote
returns-clause-vote c =
    let kept : (nat_lt c.args.slot c.self.inside.low || ballot_lt c.args.ballot c.self.inside.promise) ≡ false = sym c.is_refused.ensures ∙ c.if-is_refused.false in
    let vote = λ (v : Value). let x : Vote = record { slot = c.args.slot; ballot = c.args.ballot; value = v } in x in
    let x : Voted = record { ballot = c.args.ballot; value = c.in_ok-value.value } in
    let put : map vote_of c.insert.new.self.entries ≡ put_slot (λ y. y.slot) (map vote_of c.self.inside.votes.entries) (vote c.args.value.now) =
    ap (map vote_of) c.in_ok-insert.ensures.entries ∙ votes_put c.self.inside.votes.entries c.args.slot x ∙ ap (λ (v : Value). put_slot (λ y. y.slot) (map vote_of c.self.inside.votes.entries) (vote v)) c.in_ok-value.ensures in
    rw (← c.self.view_is, kept) (ap (λ (vs : List Vote). let a : Acceptor = record { promise = c.args.ballot; votes = vs; low = c.self.inside.low } in a) put)
