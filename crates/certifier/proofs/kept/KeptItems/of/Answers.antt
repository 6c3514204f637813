-- One item more is put in; items that ascend are put in as they are.
use Rattle.std.proofs.Common.{sym, ◌∙◌}
use Rattle.certifier.proofs.KeptLists.{filling_next, filling_end, no_items}
use Rattle.certifier.proofs.kept.KeptItems.of.Goals as goal

pub loop-one-preserved : goal.loop-one-preserved
loop-one-preserved c = filling_next c.args.items c.loop-one.kept c.put.new.self c.loop-one.one-iterator.rest.items c.next.new.self.rest.items c.in-Some.one c.loop-one.invariant c.in-Some.ensures.steps.0 c.in_ok-put.ensures.ok

pub returns : goal.returns
returns c =
    let left = c.loop-one.one-iterator.rest in
    filling_end c.args.items c.loop-one.kept left.items c.requires (no_items left.items (sym left.ok.0 ∙ c.in-None.ensures.steps.0)) c.loop-one.invariant
