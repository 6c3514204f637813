-- What rows send.
use Rattle.std.proofs.Common.{◌≡◌, ℕ, Bool, true, false, List, [], ◌∷◌, refl, ap}
use Rattle.std.specs.Prelude.{map, not, is_some, ◌&&◌}
use Rattle.gr_ids.specs.declared.names.Inc.{Inc}
use Rattle.slot_values.specs.declared.value.Value.{Value}
use Rattle.node_rules.specs.Names.{Message, Learn, Greet, Welcome}
use Rattle.node_rules.specs.Slots.{Entry}
use Rattle.node_rules.specs.Node.{Node}
use Rattle.node_rules.specs.Learning.{hear_learn}
use Rattle.node_rules.specs.Welcoming.{hear_welcome, is_for, is_in_order}
use Rattle.node_rules.specs.Step.{hear}
use Rattle.paxos_votes.specs.Entries.{entry_in}
use Rattle.paxos_votes.specs.declared.learner.KnownSlot.{KnownSlot}
use Rattle.paxos_node.specs.Notices.{learn_of}

abbrev pub tells_entry : Inc → Inc → Entry → Message
tells_entry me to e = record { from = me; to = to; wire = Learn e.slot e.value }

pub known_sent : (me to : Inc) (ks : List KnownSlot) → map (learn_of me to) ks ≡ map (tells_entry me to) (map entry_in ks)
known_sent me to [] = refl
known_sent me to (k ∷ ks) = ap (λ l. learn_of me to k ∷ l) (known_sent me to ks)

pub learn_sends : (i : Inc) (t : ℕ) (v : Value) (n : Node) → (hear i (Learn t v) n).sent ≡ []
unfolding hear hear_learn
learn_sends i t v n = refl

pub welcome_sends : (i : Inc) (x : Welcome) (n : Node) → (hear i (Greet x) n).sent ≡ []
unfolding hear hear_welcome
welcome_sends i x n = go (not (is_some n.turns) && (is_in_order x && is_for x n.me n.horizon)) refl
  where
    go : (u : Bool) → (not (is_some n.turns) && (is_in_order x && is_for x n.me n.horizon)) ≡ u → (hear_welcome x n).sent ≡ []
    go true p = rw p refl
    go false p = rw p refl
