-- The last change of the item decides.
use Rattle.std.proofs.Common.{◌≡◌, true, false, ap, sym, refl, ◌∙◌}
use Rattle.key_items.specs.Items.{item_eq}
use Rattle.group_rules.specs.Rows.{changed_row}
use Rattle.local_sessions.proofs.Rows.{changed_last}
use Rattle.local_sessions.proofs.reading.last_write.Goals as goal

pub returns-then-eq : goal.returns-then-eq
returns-then-eq c r =
    let same : item_eq c.in-Some.change.now.item c.args.item.now ≡ true = sym c.eq.ensures ∙ c.if-eq.true in
    sym (c.loop-change.invariant r)
    ∙ (ap (λ l. changed_row c.args.item.now r l) c.in-Some.ensures.cases.0 ∙ (changed_last c.args.item.now r c.in-Some.earlier.now c.in-Some.change.now ∙ rw same refl))

pub loop-change-preserved : goal.loop-change-preserved
loop-change-preserved c r =
    let other : item_eq c.in-Some.change.now.item c.args.item.now ≡ false = sym c.eq.ensures ∙ c.if-eq.false in
    sym (ap (λ l. changed_row c.args.item.now r l) c.in-Some.ensures.cases.0 ∙ (changed_last c.args.item.now r c.in-Some.earlier.now c.in-Some.change.now ∙ rw other refl))
    ∙ c.loop-change.invariant r
