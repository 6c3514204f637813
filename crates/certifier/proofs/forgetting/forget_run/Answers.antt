-- One writer more is forgotten; at the end the run has none.
use Rattle.std.proofs.Common.{List, sym, ap, subst, ◌∙◌}
use Rattle.std.specs.Prelude.{if◌then◌else◌}
use Rattle.key_items.specs.declared.item.Item.{Item}
use Rattle.key_items.specs.Items.{has_item}
use Rattle.certifier.specs.Forgetting.{unless_by}
use Rattle.certifier.specs.Inside.{IsIndexed}
use Rattle.certifier.proofs.Forgotten.{emptying_next, emptying_end}
use Rattle.certifier.proofs.Noted.{Written}
use Rattle.certifier.proofs.PuttingBack.{writer_at}
use Rattle.certifier.proofs.forgetting.forget_run.Goals as goal

pub loop-gtid-preserved : goal.loop-gtid-preserved
loop-gtid-preserved c =
    let fs = c.loop-gtid.writers.entries in
    emptying_next c.args.run.now c.args.writers.now.entries fs c.drop_items.new.writers.entries c.loop-gtid.written.entries c.take_writer.new.written.entries c.in-Some.gtid c.in-Some.items c.in-Some.ensures
    (λ i. c.drop_items.ensures.dropped i ∙ ap (λ (is : List Item). if has_item is i then unless_by c.in-Some.gtid (writer_at fs i) else writer_at fs i) c.deref.ensures.value)
    (c.drop_items.ensures.ordered c.loop-gtid.invariant.indexed.ordered) c.loop-gtid.invariant

pub returns-clause-dropped : goal.returns-clause-dropped
returns-clause-dropped c = emptying_end c.args.run.now c.args.writers.now.entries c.loop-gtid.writers.entries c.loop-gtid.written.entries c.in_default.ensures.lacks c.loop-gtid.invariant

pub returns-clause-indexed : goal.returns-clause-indexed
returns-clause-indexed c = subst (λ (ws : Written). IsIndexed c.loop-gtid.writers.entries ws) (sym c.in_default.ensures.same) c.loop-gtid.invariant.indexed
