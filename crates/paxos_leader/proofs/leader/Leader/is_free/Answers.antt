-- The slot is proposed where it has an entry.
use Rattle.std.proofs.Common.{◌≡◌, false, sym, ap, ◌∙◌}
use Rattle.std.specs.Prelude.{not}
use Rattle.node_rules.specs.Learner.{is_decided}
use Rattle.paxos_leader.proofs.Proposals.{has_proposal}
use Rattle.paxos_leader.proofs.leader.Leader.is_free.Goals as goal

pub returns-then-not-is_decided : goal.returns-then-not-is_decided
returns-then-not-is_decided c =
    let open_here : is_decided c.args.learner.now c.args.slot ≡ false = sym c.is_decided.ensures ∙ c.if-not-is_decided.true in
    rw (open_here, ← c.self.view_is) (ap not (c.contains_key.ensures ∙ sym (has_proposal c.self.inside.proposals.entries c.args.slot)))
