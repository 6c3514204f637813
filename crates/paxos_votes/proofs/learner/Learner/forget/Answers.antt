-- What stays are the entries from the slot on.
use Rattle.std.proofs.Common.{◌≡◌, ◌≤◌, List, sym, ap, ◌∙◌}
use Rattle.std.specs.Prelude.{map}
use Rattle.slot_values.specs.Slots.{last_slot}
use Rattle.node_rules.specs.Learner.{Learner}
use Rattle.node_rules.specs.Slots.{Entry, from_slot}
use Rattle.paxos_votes.specs.Entries.{entry_of}
use Rattle.paxos_votes.proofs.SlotMaps.{each_from}
use Rattle.paxos_votes.proofs.Decided.{entries_from_is}
use Rattle.paxos_votes.proofs.learner.Learner.forget.Goals as goal

pub invariant_of-self : goal.invariant_of-self
invariant_of-self c = record {
  slots = rw c.forget_below.ensures (each_from (λ k. k ≤ last_slot) c.self.inside.decided.entries c.args.below c.self.invariant.slots);
  least = c.self.invariant.least;
}

pub returns : goal.returns
returns c =
    let stay : map entry_of c.forget_below.new.slots.entries ≡ from_slot (λ e. e.slot) (map entry_of c.self.inside.decided.entries) c.args.below = ap (map entry_of) c.forget_below.ensures ∙ sym (entries_from_is c.self.inside.decided.entries c.args.below) in
    rw (← c.self.view_is) (ap (λ (es : List Entry). let l : Learner = record { decided = es; slot = c.self.inside.slot; next = c.self.inside.next } in l) stay)
