-- Proposing: offers, the row Promise, own values, and the campaign of a new leader.
-- (Lamport, "Paxos Made Simple", section 2.2, phases 1 and 2 at the proposer; section 3.)
use Rattle.std.specs.Prelude.{ℕ, zero, suc, Bool, ◌+◌, ◌-◌, ◌^◌, ◌||◌, not, Option, Some, None, List, [], ◌∷◌, ◌++◌, map, fold, nat_lt, ◌==◌, if◌then◌else◌, is_some}
use Rattle.std.specs.List.{list_any}
use Rattle.node_rules.specs.Names.{Inc, Ballot, Value, Vote, Message, Prepare, Accept, Offer}
use Rattle.gr_ids.specs.Names.{inc_eq, ballot_eq}
use Rattle.node_rules.specs.Lists.{union}
use Rattle.node_rules.specs.Acceptor.{promising, votes_from}
use Rattle.node_rules.specs.Learner.{Learner, is_decided}
use Rattle.node_rules.specs.Known.{members_by, config_here, last_by}
use Rattle.node_rules.specs.Leader.{Leader, Choice, new_leader, keep_promise, take_offer, choice, proposing}
use Rattle.node_rules.specs.Node.{Node, Effect, quiet, sends, also, message, to_others, leads}
use Rattle.node_rules.specs.Voting.{votes}
use Rattle.node_rules.specs.Learning.{hear_accepted}

-- a slot above t is decided here
abbrev pub decided_above : Learner → ℕ → Bool
decided_above l t = list_any (λ e. nat_lt t e.slot) l.decided

-- ---- the proposing rule

-- the leader votes for its proposal itself, sends Accept to the others in the slot's configuration, and counts its own vote
abbrev pub proposes : Node → Leader → Choice → Effect
proposes n l c =
    let x : Vote = record { slot = c.slot; ballot = l.ballot; value = c.value } in
    also (record {
      node = leads (votes n x) (proposing l c);
      sent = to_others n (config_here n.turns c.slot) (Accept l.ballot c.slot c.value);
      cast = x ∷ [];
      took = [];
    }) (hear_accepted n.me l.ballot c.slot)

abbrev pub propose_choice : Node → Leader → Option Choice → Effect
propose_choice n l None = quiet n
propose_choice n l (Some c) = proposes n l c

abbrev pub lead_propose : Node → Option Leader → Effect
lead_propose n None = quiet n
lead_propose n (Some l) = propose_choice n l (choice (is_decided n.learner) (decided_above n.learner) n.turns l n.horizon n.learner.next)

unfoldable pub propose_one : Node → Effect
propose_one n = lead_propose n n.leader

abbrev pub propose_times : ℕ → Node → Effect
propose_times zero n = quiet n
propose_times (suc k) n = also (propose_one n) (propose_times k)

-- A leader repeats this while it proposes something. The configurations that it knows, and so the proposals, end at the horizon.
abbrev pub propose_all : Node → Effect
propose_all n = propose_times n.horizon n

-- ---- the row Promise

abbrev pub lead_promise : Inc → Ballot → List Vote → Node → Option Leader → Effect
lead_promise i b xs n None = quiet n
lead_promise i b xs n (Some l) = if ballot_eq l.ballot b then also (quiet (leads n (keep_promise l i xs))) propose_all else quiet n

unfoldable pub hear_promise : Inc → Ballot → List Vote → Node → Effect
hear_promise i b xs n = lead_promise i b xs n n.leader

-- ---- offers and own values

-- the leader takes these values as offers, and then proposes
abbrev pub lead_offers : List Value → Node → Leader → Effect
lead_offers vs n l = also (quiet (leads n (fold (take_offer (is_decided n.learner) (last_by n.turns)) l vs))) propose_all

-- Offers of these values to the believed leader: the incarnation in the promise, where it is another
abbrev pub offers_out : Node → List Value → List Message
offers_out n vs = if (n.acceptor.promise.round == 0) || inc_eq n.acceptor.promise.inc n.me then [] else map (λ v. message n n.acceptor.promise.inc (Offer v)) vs

abbrev pub offers : List Value → Node → Option Leader → Effect
offers vs n None = sends n (offers_out n vs)
offers vs n (Some l) = lead_offers vs n l

-- a new own value
unfoldable pub own_value : Value → Node → Effect
own_value v n = offers (v ∷ []) (record n { own = n.own ++ v ∷ [] }) n.leader

abbrev pub lead_offer : Value → Node → Option Leader → Effect
lead_offer v n None = quiet n
lead_offer v n (Some l) = lead_offers (v ∷ []) n l

-- an Offer that has no number yet is a joiner's Add, which the member makes a value of its own
unfoldable pub hear_offer : Value → Node → Effect
hear_offer v n = if v.id.number == 0 then quiet n else lead_offer v n n.leader

-- ---- the campaign

-- the configurations of these many slots from t on
abbrev pub reach : Node → ℕ → ℕ → List Inc
reach n zero t = []
reach n (suc k) t = union (config_here n.turns t) (reach n k (t + 1))

-- the members by the entries taken, and those in a configuration of the slots from `next` on that the horizon allows
abbrev pub audience : Node → List Inc
audience n = union (members_by n.turns) (reach n n.horizon n.learner.next)

abbrev pub next_ballot : Node → Ballot
next_ballot n = record { round = n.acceptor.promise.round + 1; inc = n.me }

-- A new leader at a ballot above the promise. Its own votes count as a promise. At the greatest round nothing is done.
unfoldable pub campaign : Node → Effect
campaign n =
    if (n.acceptor.promise.round == 2 ^ 32 - 1) || not (is_some n.turns) then quiet n
    else sends (record n { acceptor = promising n.acceptor (next_ballot n); leader = Some (new_leader (next_ballot n) (record { inc = n.me; votes = votes_from n.acceptor n.learner.next } ∷ [])) })
    (to_others n (audience n) (Prepare (next_ballot n) n.learner.next))
