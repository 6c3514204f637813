-- A slot from `next` on is decided where it has an entry.
use Rattle.std.proofs.Common.{◌≡◌, false, sym, ◌∙◌}
use Rattle.std.specs.Prelude.{nat_lt}
use Rattle.std.proofs.lemmas.Bool.{le-ltb}
use Rattle.paxos_votes.proofs.Decided.{has_entry}
use Rattle.paxos_votes.proofs.learner.Learner.is_decided.Goals as goal

pub returns-else-slot-self : goal.returns-else-slot-self
returns-else-slot-self c =
    let from : nat_lt c.args.slot c.self.inside.next ≡ false = le-ltb c.args.slot c.self.inside.next c.if-slot-self.false in
    rw (← c.self.view_is, from) (c.contains_key.ensures ∙ sym (has_entry c.self.inside.decided.entries c.args.slot))
