-- By the transaction's own items, the writer is that of all that are kept.
use Rattle.std.proofs.Common.{ap, sym, ◌∙◌}
use Rattle.std.proofs.lemmas.List.{drop_all}
use Rattle.certifier.specs.Blockers.{later_writer}
use Rattle.certifier.proofs.FirstBlocker.{best, blocker_is, later_none}
use Rattle.certifier.proofs.blocking.blocker.Goals as goal

pub returns : goal.returns
returns c =
    let s = c.args.txn.now.snapshot in
    let es = c.args.items.now.entries in
    let written = c.as_slice-written.result.now in
    sym (later_none c.loop-item.last)
    ∙ (ap (λ is. later_writer c.loop-item.last (best s es is)) (sym (drop_all c.loop-item.item-index written c.loop-item-test.false))
    ∙ (c.loop-item.invariant
    ∙ (ap (best s es) c.as_slice-written.ensures.items
    ∙ sym (blocker_is es c.args.txn.now c.requires c.as_slice-written.ensures.ascend))))
