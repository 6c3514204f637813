-- What a leader sends again.
use Rattle.std.proofs.Common.{◌≡◌, Bool, true, false, List, [], ◌∷◌, ◌++◌, Option, Some, refl, sym, ap, append_assoc}
use Rattle.std.specs.Prelude.{flat_map}
use Rattle.slot_values.specs.Log.{Turns}
use Rattle.node_rules.specs.Names.{Message}
use Rattle.node_rules.specs.Learner.{is_decided}
use Rattle.node_rules.specs.Leader.{Leader, Proposal}
use Rattle.node_rules.specs.Node.{Node}
use Rattle.node_rules.specs.Ticks.{accepts_again, lead_tick, prepares_again}
use Rattle.paxos_leader.specs.Missing.{absent, missing}
use Rattle.paxos_node.specs.Notices.{accepts_to}

pub again_is : (n : Node) (w : Turns) (l : Leader) (ps : List Proposal) → n.turns ≡ Some w → flat_map (accepts_to n.me l.ballot) (missing n.learner w ps) ≡ flat_map (accepts_again n l) ps
again_is n w l [] e = refl
again_is n w l (p ∷ ps) e = go (is_decided n.learner p.slot) refl (again_is n w l ps e)
  where
    go : (u : Bool) → is_decided n.learner p.slot ≡ u → flat_map (accepts_to n.me l.ballot) (missing n.learner w ps) ≡ flat_map (accepts_again n l) ps → flat_map (accepts_to n.me l.ballot) (missing n.learner w (p ∷ ps)) ≡ flat_map (accepts_again n l) (p ∷ ps)
    go true q r = rw q r
    go false q r = rw (q, e) (ap (λ (ms : List Message). accepts_to n.me l.ballot (absent w p) ++ ms) r)

-- both, to who hasn't promised and to who hasn't accepted
pub both_sent : (n : Node) (l : Leader) (before between : List Message) → n.leader ≡ Some l → between ≡ before ++ prepares_again n l → between ++ flat_map (accepts_again n l) l.proposals ≡ before ++ lead_tick n n.leader
both_sent n l before between e h = rw (h, append_assoc) (ap (λ (o : Option Leader). before ++ lead_tick n o) (sym e))
