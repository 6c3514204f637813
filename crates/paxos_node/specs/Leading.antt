-- What the rows of a leader do to a node's leader, where it has one.
use Rattle.std.specs.Prelude.{ℕ, Bool, false, Option, Some, None, List, fold, option_map}
use Rattle.gr_ids.specs.declared.names.Inc.{Inc}
use Rattle.gr_ids.specs.declared.names.Ballot.{Ballot}
use Rattle.gr_ids.specs.Names.{ballot_eq}
use Rattle.slot_values.specs.declared.value.Value.{Value}
use Rattle.slot_values.specs.declared.value.Vote.{Vote}
use Rattle.slot_values.specs.Log.{Turns}
use Rattle.node_rules.specs.Known.{last_by}
use Rattle.node_rules.specs.Learner.{Learner, is_decided}
use Rattle.node_rules.specs.Leader.{Leader, Choice, choice, proposal_at, take_offer}
use Rattle.node_rules.specs.Proposing.{decided_above}
use Rattle.paxos_leader.specs.Choosing.{with_choice}
use Rattle.paxos_leader.specs.Counting.{counted, decides}

-- it leads at this ballot
abbrev pub leads_at : Ballot → Option Leader → Bool
leads_at b None = false
leads_at b (Some l) = ballot_eq l.ballot b

-- the vote of its own for what it proposed in a slot
abbrev pub own_vote : ℕ → Option Leader → Option Vote
own_vote t None = None
own_vote t (Some l) = option_map (λ p. record { slot = t; ballot = l.ballot; value = p.value }) (proposal_at l t)

-- ---- what it proposes next, in one of the h slots from the least undecided one on

abbrev pub choice_in : Learner → Option Turns → ℕ → Option Leader → Option Choice
choice_in d w h None = None
choice_in d w h (Some l) = choice (is_decided d) (decided_above d) w l h d.next

abbrev pub choosing : Learner → Option Turns → ℕ → Option Leader → Option Leader
choosing d w h l = option_map (λ x. with_choice x (choice_in d w h (Some x))) l

-- ---- an acceptance of a slot

abbrev pub counting : Learner → Inc → ℕ → Option Leader → Option Leader
counting d i t l = option_map (λ x. counted (is_decided d) i x (proposal_at x t)) l

abbrev pub settling : Learner → Option Turns → Inc → ℕ → Option Leader → Bool
settling d w i t None = false
settling d w i t (Some l) = decides (is_decided d) w i (proposal_at l t)

-- ---- offers of these values

abbrev pub offering : Learner → Option Turns → List Value → Option Leader → Option Leader
offering d w vs l = option_map (λ x. fold (take_offer (is_decided d) (last_by w)) x vs) l
