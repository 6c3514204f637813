-- The entry goes to its place, and `next` passes the slots that have entries.
use Rattle.std.proofs.Common.{◌≡◌, ◌≤◌, false, sym, ◌∙◌}
use Rattle.slot_values.specs.Slots.{last_slot}
use Rattle.node_rules.specs.Learner.{is_decided}
use Rattle.paxos_votes.proofs.SlotMaps.{each_put}
use Rattle.paxos_votes.proofs.Decided.{learnt}
use Rattle.paxos_votes.proofs.learner.Learner.learn.Goals as goal

pub least_undecided-self-inside-requires : goal.least_undecided-self-inside-requires
least_undecided-self-inside-requires c = record {
  slots = rw c.in_ok-insert.ensures.entries (each_put (λ k. k ≤ last_slot) c.self.inside.decided.entries c.args.slot c.args.value c.requires c.self.invariant.slots);
  least = c.self.invariant.least;
}

pub invariant_of-self-2 : goal.invariant_of-self-2
invariant_of-self-2 c = record {
  slots = rw c.in_ok-insert.ensures.entries (each_put (λ k. k ≤ last_slot) c.self.inside.decided.entries c.args.slot c.args.value c.requires c.self.invariant.slots);
  least = c.least_undecided-self-inside.ensures.range;
}

pub returns-clause-ok : goal.returns-clause-ok
returns-clause-ok c =
    let fresh : is_decided c.args.self.now c.args.slot ≡ false = sym c.is_decided.ensures ∙ c.if-is_decided.false in
    rw fresh (rw (← c.self.view_is) (learnt c.self.inside.decided.entries c.insert.new.self.entries c.self.inside.slot c.self.inside.next c.least_undecided-self-inside.result c.args.slot c.args.value c.in_ok-insert.ensures.entries c.least_undecided-self-inside.ensures.slot))
