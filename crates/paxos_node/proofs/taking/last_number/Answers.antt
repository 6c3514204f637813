-- A member's last number is found among the members.
use Rattle.std.proofs.Common.{◌≡◌, true, false, List, sym, ap, ◌∙◌}
use Rattle.gr_ids.specs.declared.names.Inc.{Inc}
use Rattle.gr_ids.specs.Names.{has_inc}
use Rattle.slot_values.specs.Log.{incs}
use Rattle.paxos_node.proofs.Takes.{last_gone, last_here}
use Rattle.paxos_node.proofs.taking.last_number.Goals as goal

pub returns-then-has_inc : goal.returns-then-has_inc
returns-then-has_inc c =
    let here : has_inc (incs c.args.turns.now.turns.reading.members) c.args.inc ≡ true = ap (λ (l : List Inc). has_inc l c.args.inc) (sym c.members.ensures) ∙ sym c.has_inc.ensures ∙ c.if-has_inc.true in
    c.last.ensures ∙ last_here c.args.turns.now.turns.reading.members c.args.turns.now.turns.reading.former c.args.inc here

pub returns-else-has_inc : goal.returns-else-has_inc
returns-else-has_inc c =
    let gone : has_inc (incs c.args.turns.now.turns.reading.members) c.args.inc ≡ false = ap (λ (l : List Inc). has_inc l c.args.inc) (sym c.members.ensures) ∙ sym c.has_inc.ensures ∙ c.if-has_inc.false in
    sym (last_gone c.args.turns.now.turns.reading.members c.args.inc gone)
