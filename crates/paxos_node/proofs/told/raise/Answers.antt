-- One more is raised.
use Rattle.std.proofs.Common.{◌≡◌, ◌+◌, suc, arith}
use Rattle.std.specs.Prelude.{map, max, if◌then◌else◌}
use Rattle.std.proofs.lemmas.List.{length-map}
use Rattle.gr_ids.specs.Names.{inc_eq}
use Rattle.node_rules.specs.Node.{Told}
use Rattle.paxos_node.specs.Told.{told_of}
use Rattle.paxos_node.proofs.Lists.{set_next}
use Rattle.paxos_node.proofs.told.raise.Goals as goal

pub loop-at-preserved : goal.loop-at-preserved
loop-at-preserved c =
    let next : c.loop-at.at + 1 ≡ suc c.loop-at.at = omega arith in
    set_next told_of (λ (x : Told). if inc_eq x.inc c.args.inc then record x { slot = max x.slot c.args.slot } else x) c.loop-at.told.items (map told_of c.args.told.now.items) c.loop-at.at (c.loop-at.at + 1) c.raised.result c.index.result.now c.loop-at.invariant next (omega (arith, length-map c.args.told.now.items told_of)) c.index.ensures c.raised.ensures
