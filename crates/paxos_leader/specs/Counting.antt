-- An acceptance of a slot that the leader proposed, counted. (Lamport, "Paxos Made Simple", section 2.2, phase 2.)
use Rattle.std.specs.Prelude.{ℕ, Bool, false, not, ◌&&◌, Option, Some, None, if◌then◌else◌}
use Rattle.gr_ids.specs.declared.names.Inc.{Inc}
use Rattle.slot_values.specs.Log.{Turns}
use Rattle.node_rules.specs.Leader.{Leader, Proposal, accepted_by, count_accepted, has_majority}

-- the sender counts for an undecided proposal
abbrev pub counted : (ℕ → Bool) → Inc → Leader → Option Proposal → Leader
counted is_done i l None = l
counted is_done i l (Some p) = if is_done p.slot then l else count_accepted l (accepted_by p i)

-- and then a majority of the slot's configuration accepted it
abbrev pub decides : (ℕ → Bool) → Option Turns → Inc → Option Proposal → Bool
decides is_done w i None = false
decides is_done w i (Some p) = not (is_done p.slot) && has_majority w (accepted_by p i)
