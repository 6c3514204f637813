-- One key more is left.
use Rattle.std.proofs.Common.{◌≡◌, ◌+◌, None, drop, ap, sym, refl, ◌∙◌}
use Rattle.row_locks.proofs.KeyReads.{held, left_in, leave_one, next_of, none_after}
use Rattle.row_locks.proofs.keys.unlock_own.Goals as goal

pub loop-item-init : goal.loop-item-init
loop-item-init c j = refl

pub loop-item-preserved : goal.loop-item-preserved
loop-item-preserved c j =
    let n = next_of c.args.items.now c.loop-item.item-index c.item-item.result c.loop-item-test.true c.item-item.is in
    leave_one c.item-item.result (drop (c.loop-item.item-index + 1) c.args.items.now) c.args.session c.loop-item.keys.entries c.unlock.new.keys.entries c.unlock.ensures j
    ∙ (ap (λ xs. left_in xs c.args.session (held c.loop-item.keys.entries) j) (sym n) ∙ c.loop-item.invariant j)

pub returns : goal.returns
returns c j = ap (λ xs. left_in xs c.args.session (held c.loop-item.keys.entries) j) (sym (none_after c.args.items.now c.loop-item.item-index c.loop-item-test.false)) ∙ c.loop-item.invariant j
