-- One item more of those behind.
use Rattle.std.proofs.Common.{ap, sym, ◌∙◌}
use Rattle.key_items.specs.Items.{with_item}
use Rattle.local_sessions.proofs.Rows.{items_onto, onto_last, onto_none}
use Rattle.local_sessions.proofs.committing.items_of_changes.Goals as goal

pub loop-change-init : goal.loop-change-init
loop-change-init c = ap (items_onto c.args.changes.now) c.new-items.ensures ∙ onto_none c.args.changes.now

pub loop-change-preserved : goal.loop-change-preserved
loop-change-preserved c =
    ap (items_onto c.in-Some.earlier.now) (c.in_ok-add.ensures.ok ∙ ap (with_item c.loop-change.items) c.in_ok-try_copy.ensures)
    ∙ (sym (onto_last c.in-Some.earlier.now c.in-Some.change.now c.loop-change.items)
    ∙ (ap (λ l. items_onto l c.loop-change.items) (sym c.in-Some.ensures.cases.0) ∙ c.loop-change.invariant))
