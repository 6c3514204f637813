-- What stays are the votes from the slot on.
use Rattle.std.proofs.Common.{◌≡◌, true, List, sym, ap, ◌∙◌}
use Rattle.std.specs.Prelude.{map, nat_lt}
use Rattle.std.proofs.lemmas.Bool.{lt-ltb}
use Rattle.node_rules.specs.Acceptor.{Acceptor}
use Rattle.slot_values.specs.declared.value.Vote.{Vote}
use Rattle.node_rules.specs.Slots.{from_slot}
use Rattle.paxos_votes.specs.Votes.{vote_of}
use Rattle.paxos_votes.proofs.Votes.{votes_from_is}
use Rattle.paxos_votes.proofs.acceptor.Acceptor.forget.Goals as goal

pub returns-then-self-below : goal.returns-then-self-below
returns-then-self-below c =
    let rises : nat_lt c.self.inside.low c.args.below ≡ true = lt-ltb c.self.inside.low c.args.below c.if-self-below.true in
    let stay : map vote_of c.forget_below.new.slots.entries ≡ from_slot (λ y. y.slot) (map vote_of c.self.inside.votes.entries) c.args.below = ap (map vote_of) c.forget_below.ensures ∙ sym (votes_from_is c.self.inside.votes.entries c.args.below) in
    rw (← c.self.view_is, rises) (ap (λ (vs : List Vote). let a : Acceptor = record { promise = c.self.inside.promise; votes = vs; low = c.args.below } in a) stay)
