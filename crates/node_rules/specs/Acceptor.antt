-- The acceptor: what a node has promised, and how it voted.
-- (Lamport, "Paxos Made Simple", section 2.2: an acceptor accepts a proposal of number n if it hasn't answered a prepare request of a greater one;
-- section 3: one prepare request stands for all instances, here all slots.)
use Rattle.std.specs.Prelude.{ℕ, Bool, ◌||◌, List, nat_lt}
use Rattle.node_rules.specs.Names.{Ballot, Vote}
use Rattle.gr_ids.specs.Names.{ballot_lt}
use Rattle.node_rules.specs.Slots.{put_slot, from_slot}

-- The promise stands for all slots, and is `no_ballot` where nothing was promised. Of each slot the last vote is kept, and none below `low`.
pub record Acceptor : Type 0 where
  pub promise : Ballot
  pub votes : List Vote
  pub low : ℕ

-- a ballot below the promise, or a slot that is forgotten: nothing is promised or voted
abbrev pub refuses : Acceptor → Ballot → ℕ → Bool
refuses a b s = nat_lt s a.low || ballot_lt b a.promise

abbrev pub promising : Acceptor → Ballot → Acceptor
promising a b = record a { promise = b }

abbrev pub voting : Acceptor → Vote → Acceptor
voting a x = record a { votes = put_slot (λ y. y.slot) a.votes x }

-- what a promise reports: the votes in slots from s on
abbrev pub votes_from : Acceptor → ℕ → List Vote
votes_from a s = from_slot (λ x. x.slot) a.votes s

-- the votes of slots below k are forgotten
abbrev pub forget_votes : ℕ → Acceptor → Acceptor
forget_votes k a = record a { votes = votes_from a k; low = k }
