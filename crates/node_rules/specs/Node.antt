-- One node of the ordering: acceptor, learner and perhaps leader, and what it knows of the log that it takes.
-- (Multi-Paxos; Lamport, "Paxos Made Simple". Membership is changed by values of the log itself, behind a horizon:
-- Lamport, Malkhi, Zhou, "Reconfiguring a State Machine".)
use Rattle.std.specs.Prelude.{ℕ, Bool, false, Option, Some, None, List, [], ◌∷◌, ◌++◌, map, ◌==◌, if◌then◌else◌}
use Rattle.node_rules.specs.Names.{Inc, Ballot, Value, Vote, Kept, At, Skipped, Taken, Message, Wire}
use Rattle.gr_ids.specs.Names.{inc_eq, no_ballot}
use Rattle.slot_values.specs.Log.{Group, Turns, first_turns}
use Rattle.node_rules.specs.Lists.{others}
use Rattle.node_rules.specs.Acceptor.{Acceptor}
use Rattle.node_rules.specs.Learner.{Learner, new_learner}
use Rattle.node_rules.specs.Known.{config_by}
use Rattle.node_rules.specs.Leader.{Leader, new_leader}

-- what another member has told of its slots: it has decided all below this one
pub record Told : Type 0 where
  pub inc : Inc
  pub slot : ℕ

-- `turns` is what it knows of the log, from a joiner's Welcome on; `told` has the other members by the entries taken;
-- `own` has its own values that aren't kept yet, in order.
pub record Node : Type 0 where
  pub me : Inc
  pub horizon : ℕ
  pub acceptor : Acceptor
  pub learner : Learner
  pub turns : Option Turns
  pub leader : Option Leader
  pub told : List Told
  pub own : List Value

abbrev pub told_from : ℕ → List Inc → List Told
told_from s is = map (λ i. record { inc = i; slot = s }) is

-- ---- how a node begins

abbrev pub first_inc : List Inc → Inc
first_inc [] = record { server = 0; start = 0 }
first_inc (i ∷ is) = i

-- round 1 of the least founder, which leads at it without any promise
abbrev pub first_ballot : Group → Ballot
first_ballot g = record { round = 1; inc = first_inc g.founders }

abbrev pub founder : Group → Inc → Node
founder g i = record {
  me = i;
  horizon = g.horizon;
  acceptor = record { promise = first_ballot g; votes = []; low = 1 };
  learner = new_learner 1;
  turns = Some (first_turns g);
  leader = if inc_eq i (first_inc g.founders) then Some (new_leader (first_ballot g) []) else None;
  told = told_from 1 (others i g.founders);
  own = [];
}

abbrev pub joiner : Group → Inc → Node
joiner g i = record { me = i; horizon = g.horizon; acceptor = record { promise = no_ballot; votes = []; low = 0 }; learner = new_learner 0; turns = None; leader = None; told = []; own = [] }

-- ---- what an act does: the node after it, the messages sent, the votes cast, the slots handed out

-- the value is kept, with effect
abbrev pub takes_effect : Kept → Bool
takes_effect (At p effect) = effect
takes_effect Skipped = false

pub record Effect : Type 0 where
  pub node : Node
  pub sent : List Message
  pub cast : List Vote
  pub took : List Taken

abbrev pub sends : Node → List Message → Effect
sends n ms = record { node = n; sent = ms; cast = []; took = [] }

abbrev pub quiet : Node → Effect
quiet n = sends n []

-- one act after another
abbrev pub also : Effect → (Node → Effect) → Effect
also e f = let d : Effect = f e.node in record { node = d.node; sent = e.sent ++ d.sent; cast = e.cast ++ d.cast; took = e.took ++ d.took }

-- ---- messages

abbrev pub message : Node → Inc → Wire → Message
message n i x = record { from = n.me; to = i; wire = x }

-- A message to each other one of these. What a node would send to itself it does at once instead.
abbrev pub to_others : Node → List Inc → Wire → List Message
to_others n is x = map (λ i. message n i x) (others n.me is)

abbrev pub leads : Node → Leader → Node
leads n l = record n { leader = Some l }

-- ---- what a node answers

-- what it has promised; a joiner may have promised nothing
abbrev pub promised : Node → Option Ballot
promised n = if n.acceptor.promise.round == 0 then None else Some n.acceptor.promise

-- the configuration of a slot, where it is known and not forgotten
abbrev pub node_config : Node → ℕ → Option (List Inc)
node_config n t = config_by n.turns t

-- the first slot that isn't forgotten
abbrev pub kept_from : Node → ℕ
kept_from n = n.acceptor.low
