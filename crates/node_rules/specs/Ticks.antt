-- A tick: what was lost is sent again. (The project's own; the messages are those of Multi-Paxos.)
use Rattle.std.specs.Prelude.{Option, Some, None, List, [], ◌++◌, ◌==◌, if◌then◌else◌, flat_map}
use Rattle.node_rules.specs.Names.{Message, Prepare, Accept, Alive}
use Rattle.node_rules.specs.Learner.{is_decided}
use Rattle.node_rules.specs.Known.{members_by}
use Rattle.node_rules.specs.Leader.{Leader, Proposal, unpromised, unaccepted}
use Rattle.node_rules.specs.Node.{Node, Effect, sends, also, to_others}
use Rattle.node_rules.specs.Proposing.{offers}

-- Prepare, from `next` on, to those whose promises are wanted; the first ballot, of round 1, wants none
abbrev pub prepares_again : Node → Leader → List Message
prepares_again n l = if l.ballot.round == 1 then [] else to_others n (unpromised n.turns l n.horizon n.learner.next) (Prepare l.ballot n.learner.next)

-- Accept of an undecided proposal to those who haven't accepted it
abbrev pub accepts_again : Node → Leader → Proposal → List Message
accepts_again n l p = if is_decided n.learner p.slot then [] else to_others n (unaccepted n.turns p) (Accept l.ballot p.slot p.value)

abbrev pub lead_tick : Node → Option Leader → List Message
lead_tick n None = []
lead_tick n (Some l) = prepares_again n l ++ flat_map (accepts_again n l) l.proposals

-- Alive to every other member; own values that aren't kept are offered again; a leader sends again what isn't answered
unfoldable pub tick : Node → Effect
tick n =
    also (sends n (to_others n (members_by n.turns) (Alive n.learner.next)))
    (λ n. also (offers n.own n n.leader)
    (λ n. sends n (lead_tick n n.leader)))
