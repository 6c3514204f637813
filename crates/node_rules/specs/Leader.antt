-- The leader: its ballot, who promised it, what it proposed, and the offers that wait.
-- (Lamport, "Paxos Made Simple", section 2.2 for the value of a proposal; section 3 for a leader of many instances, and for the no-op that fills a gap.)
-- `is_done` tells which slots are decided here, `is_done_above` whether a slot above this one is.
use Rattle.std.specs.Prelude.{ℕ, zero, suc, Bool, ◌+◌, ◌^◌, ◌&&◌, ◌||◌, not, Option, Some, None, List, [], ◌∷◌, ◌++◌, filter, fold, nat_lt, nat_le, ◌==◌, if◌then◌else◌, is_some}
use Rattle.std.specs.List.{list_any}
use Rattle.node_rules.specs.Names.{Inc, Ballot, ValueId, Value, Vote, Noop}
use Rattle.gr_ids.specs.Names.{inc_eq, id_eq, ballot_lt, has_inc}
use Rattle.slot_values.specs.Log.{Turns, majority, with_inc}
use Rattle.node_rules.specs.Lists.{union}
use Rattle.node_rules.specs.Slots.{at_slot, put_slot, from_slot}
use Rattle.node_rules.specs.Known.{config_by, config_here}

-- a promise that a leader keeps: who promised, and the votes reported
pub record Promised : Type 0 where
  pub inc : Inc
  pub votes : List Vote

-- a slot that a leader proposed at its ballot, and who accepted
pub record Proposal : Type 0 where
  pub slot : ℕ
  pub value : Value
  pub accepted : List Inc

-- the promises and the offers in order of arrival, the proposals by slot
pub record Leader : Type 0 where
  pub ballot : Ballot
  pub promises : List Promised
  pub proposals : List Proposal
  pub offers : List Value

abbrev pub new_leader : Ballot → List Promised → Leader
new_leader b ps = record { ballot = b; promises = ps; proposals = []; offers = [] }

abbrev pub proposal_at : Leader → ℕ → Option Proposal
proposal_at l t = at_slot (λ p. p.slot) l.proposals t

-- ---- promises

abbrev pub has_promise : List Promised → Inc → Bool
has_promise ps i = list_any (λ p. inc_eq p.inc i) ps

-- a promise is kept once for each sender
abbrev pub keep_promise : Leader → Inc → List Vote → Leader
keep_promise l i xs = if has_promise l.promises i then l else record l { promises = l.promises ++ record { inc = i; votes = xs } ∷ [] }

abbrev pub vote_at : List Vote → ℕ → Option Vote
vote_at xs t = at_slot (λ x. x.slot) xs t

-- the one at the higher ballot, of two votes that may be there
abbrev pub higher : Option Vote → Option Vote → Option Vote
higher None y = y
higher (Some x) None = Some x
higher (Some x) (Some y) = if ballot_lt x.ballot y.ballot then Some y else Some x

-- a promiser outside the configuration doesn't count
abbrev pub better : List Inc → ℕ → Option Vote → Promised → Option Vote
better c t x p = if has_inc c p.inc then higher x (vote_at p.votes t) else x

-- the vote at the highest ballot for the slot, of those that promisers in this configuration reported
abbrev pub best : List Inc → List Promised → ℕ → Option Vote
best c ps t = fold (better c t) None ps

abbrev pub reported_above : List Promised → ℕ → Bool
reported_above ps t = list_any (λ p. list_any (λ x. nat_lt t x.slot) p.votes) ps

-- those who haven't promised the ballot and stand in a configuration of which no majority has
abbrev pub not_promised : List Promised → List Inc → List Inc
not_promised ps c = if majority c (has_promise ps) then [] else filter (λ i. not (has_promise ps i)) c

-- those of the configurations of these many slots from t on, ascending
abbrev pub unpromised : Option Turns → Leader → ℕ → ℕ → List Inc
unpromised w l zero t = []
unpromised w l (suc k) t = union (not_promised l.promises (config_here w t)) (unpromised w l k (t + 1))

-- ---- offers

abbrev pub has_id : List Value → ValueId → Bool
has_id vs x = list_any (λ v. id_eq v.id x) vs

-- the identity is that of a proposal in an undecided slot
abbrev pub is_proposed : (ℕ → Bool) → Leader → ValueId → Bool
is_proposed is_done l x = list_any (λ p. id_eq p.value.id x && not (is_done p.slot)) l.proposals

-- an offer goes last, unless it is there, or is proposed, or its number isn't above the origin's last kept number
abbrev pub refuses_offer : (ℕ → Bool) → (Inc → ℕ) → Leader → Value → Bool
refuses_offer is_done last l v = (has_id l.offers v.id || is_proposed is_done l v.id) || nat_le v.id.number (last v.id.origin)

abbrev pub take_offer : (ℕ → Bool) → (Inc → ℕ) → Leader → Value → Leader
take_offer is_done last l v = if refuses_offer is_done last l v then l else record l { offers = l.offers ++ v ∷ [] }

-- ---- proposals

-- the least of these many slots from t on that is neither decided nor proposed at this ballot
abbrev pub free_slot : (ℕ → Bool) → Leader → ℕ → ℕ → Option ℕ
free_slot is_done l zero t = None
free_slot is_done l (suc k) t = if is_done t || is_some (proposal_at l t) then free_slot is_done l k (t + 1) else Some t

-- The slot's configuration is known, and a majority of it promised the ballot. The first ballot, of round 1, needs no promises.
abbrev pub may_propose : Option Turns → Leader → ℕ → Bool
may_propose w l t = (is_some (config_by w t) && nat_le t (2 ^ 42)) && ((l.ballot.round == 1) || majority (config_here w t) (has_promise l.promises))

-- it has no number, and is never kept
abbrev pub noop : Inc → Value
noop me = record { id = record { origin = me; number = 0 }; what = Noop }

-- what is proposed: the slot, the value, and the offers that are left
pub record Choice : Type 0 where
  pub slot : ℕ
  pub value : Value
  pub offers : List Value

abbrev pub first_offer : ℕ → List Value → Option Choice
first_offer t [] = None
first_offer t (v ∷ vs) = Some (record { slot = t; value = v; offers = vs })

-- the value of the highest vote reported; else a Noop below something later; else the first offer
abbrev pub choice_by : Bool → Leader → ℕ → Option Vote → Option Choice
choice_by later l t (Some x) = Some (record { slot = t; value = x.value; offers = l.offers })
choice_by later l t None = if later then Some (record { slot = t; value = noop l.ballot.inc; offers = l.offers }) else first_offer t l.offers

abbrev pub choice_at : (ℕ → Bool) → Option Turns → Leader → Option ℕ → Option Choice
choice_at is_done_above w l None = None
choice_at is_done_above w l (Some t) = if may_propose w l t then choice_by (reported_above l.promises t || is_done_above t) l t (best (config_here w t) l.promises t) else None

-- what this leader proposes next, in one of these many slots from t on
abbrev pub choice : (ℕ → Bool) → (ℕ → Bool) → Option Turns → Leader → ℕ → ℕ → Option Choice
choice is_done is_done_above w l k t = choice_at is_done_above w l (free_slot is_done l k t)

abbrev pub proposing : Leader → Choice → Leader
proposing l c = record l { proposals = put_slot (λ p. p.slot) l.proposals (record { slot = c.slot; value = c.value; accepted = [] }); offers = c.offers }

-- ---- acceptances

abbrev pub accepted_by : Proposal → Inc → Proposal
accepted_by p i = record p { accepted = with_inc p.accepted i }

abbrev pub count_accepted : Leader → Proposal → Leader
count_accepted l p = record l { proposals = put_slot (λ q. q.slot) l.proposals p }

-- a majority of the slot's configuration accepted
abbrev pub has_majority : Option Turns → Proposal → Bool
has_majority w p = majority (config_here w p.slot) (has_inc p.accepted)

-- those of the slot's configuration who haven't accepted
abbrev pub unaccepted : Option Turns → Proposal → List Inc
unaccepted w p = filter (λ i. not (has_inc p.accepted i)) (config_here w p.slot)

-- the proposals of slots below k are forgotten
abbrev pub forget_proposals : ℕ → Leader → Leader
forget_proposals k l = record l { proposals = from_slot (λ p. p.slot) l.proposals k }
