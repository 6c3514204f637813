-- A node within the ranges that the forms of messages have: all that it keeps and sends can be spelt.
use Rattle.std.specs.Prelude.{◌≡◌, ◌⊎◌, ◌+◌, ◌≤◌, Some, None, List}
use Rattle.byte_forms.specs.Lists.{IsChain}
use Rattle.gr_ids.specs.declared.names.Inc.{Inc}
use Rattle.gr_ids.specs.declared.names.Ballot.{Ballot}
use Rattle.name_forms.specs.Incs.{IsInc}
use Rattle.name_forms.specs.Ballots.{IsBallot}
use Rattle.slot_values.specs.Slots.{IsSlot, last_slot}
use Rattle.slot_values.specs.Spelling.{IsValue, IsVoteAfter}
use Rattle.slot_values.specs.Log.{Turns, incs}
use Rattle.slot_values.specs.declared.value.Value.{Value}
use Rattle.slot_values.specs.declared.value.Vote.{Vote}
use Rattle.paxos_forms.specs.Messages.{IsMessage}
use Rattle.node_rules.specs.declared.event.PaxosEvent.{PaxosEvent}
use Rattle.node_rules.specs.declared.event.PaxosEvent.TheVariants.{Heard, Own}
use Rattle.node_rules.specs.Lists.{In}
use Rattle.node_rules.specs.Slots.{Entry}
use Rattle.node_rules.specs.Leader.{Leader, Promised, Proposal}
use Rattle.node_rules.specs.Node.{Node}

-- ---- what a node keeps

abbrev pub AreIncs : List Inc → Type 0
AreIncs is = (i : Inc) → In i is → IsInc i

abbrev pub AreValues : List Value → Type 0
AreValues vs = (v : Value) → In v vs → IsValue v

-- nothing was promised, or a ballot
abbrev pub IsPromise : Ballot → Type 0
IsPromise b = (b.round ≡ 0) ⊎ IsBallot b

pub record KnowsIncs (w : Turns) : Type 0 where
  pub members : AreIncs (incs w.reading.members)
  pub configs : (c : List Inc) → In c w.configs → AreIncs c

pub record LeadsInRange (l : Leader) : Type 0 where
  pub ballot : IsBallot l.ballot
  pub reported : (p : Promised) → In p l.promises → (x : Vote) → In x p.votes → IsValue x.value
  pub proposals : (p : Proposal) → In p l.proposals → IsSlot p.slot × IsValue p.value
  pub offers : AreValues l.offers

-- The least undecided slot may be the one after the last; it is none before a log is known.
pub record IsInRange (n : Node) : Type 0 where
  pub me : IsInc n.me
  pub promise : IsPromise n.acceptor.promise
  pub votes : IsChain IsVoteAfter None n.acceptor.votes
  pub decided : (e : Entry) → In e n.learner.decided → IsSlot e.slot × IsValue e.value
  pub next : n.learner.next ≤ last_slot + 1
  pub turns : (w : Turns) → n.turns ≡ Some w → (1 ≤ n.learner.next) × KnowsIncs w
  pub leader : (l : Leader) → n.leader ≡ Some l → LeadsInRange l
  pub own : AreValues n.own

-- ---- what it is given

abbrev pub IsGiven : PaxosEvent → Type 0
IsGiven (Heard m) = IsMessage m
IsGiven (Own v) = IsValue v
IsGiven e = Unit {0}
