-- The removed one counts no more.
use Rattle.std.proofs.Common.{◌≡◌, true, sym, ap, ◌∙◌}
use Rattle.std.specs.Prelude.{not, map}
use Rattle.gr_ids.specs.Names.{inc_eq}
use Rattle.node_rules.specs.Node.{takes_effect}
use Rattle.paxos_node.specs.Told.{told_of}
use Rattle.paxos_node.proofs.Takes.{filter_of}
use Rattle.paxos_node.proofs.taking.note.Goals as goal

pub returns-in-Remove : goal.returns-in-Remove
returns-in-Remove c =
    let effect : takes_effect c.args.kept.now ≡ true = sym c.takes_effect.ensures ∙ c.if-not-takes_effect.false in
    rw (effect, c.in-Remove.is) (ap (map told_of) c.drop_told.ensures ∙ filter_of told_of (λ x. not (inc_eq x.inc c.in-Remove.inc)) c.args.told.now.items)
