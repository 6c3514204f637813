-- One item more.
use Rattle.std.proofs.Common.{Some, refl, subst, sym, ap, ◌∙◌}
use Rattle.row_store.proofs.ChainReads.{Changes, at}
use Rattle.row_store.proofs.Copies.{AreOf, all_of, copied_all, copied_one, copied_or}
use Rattle.row_store.proofs.copying.copy_chains.Goals as goal

pub loop-item-init : goal.loop-item-init
loop-item-init c = record {
  whole = rw (c.into_iter-item-iterator.ensures.into_iter_gives, c.iter-item-items.ensures.rest, c.new-copy.ensures.empty) (λ i. refl);
  rest = rw (c.into_iter-item-iterator.ensures.into_iter_gives, c.iter-item-items.ensures.rest) (all_of c.args.chains.now.entries c.args.chains.now.entries c.iter-item-items.ensures.found);
}

added : (c : goal.After-enum_told-1) → Changes c.loop-item.copy.entries c.insert.new.self.entries c.in-Some.item.now (Some c.in_ok-copy_versions.field-0)
added c = rw c.in_ok-try_copy.ensures at c.in_ok-insert.ensures.updates.0

added_over : (c : goal.After-drop-branch-in-loop-item) → Changes c.loop-item.copy.entries c.insert.new.self.entries c.in-Some.item.now (Some c.in_ok-copy_versions.field-0)
added_over c = rw c.in_ok-try_copy.ensures at c.in_ok-insert.ensures.updates.0

pub loop-item-preserved-in_ok-insert : goal.loop-item-preserved-in_ok-insert
loop-item-preserved-in_ok-insert c =
    let s = c.in-Some.ensures.steps in
    let left = subst (AreOf c.args.chains.now.entries) s c.loop-item.invariant.rest in
    record {
      whole = copied_one c.args.chains.now.entries c.loop-item.copy.entries c.insert.new.self.entries c.next.new.self c.in-Some.item.now c.in-Some.versions.now c.in_ok-copy_versions.field-0
          (added_over c) (c.in_ok-copy_versions.ensures ∙ c.deref.ensures.value) left.0 (λ i. ap (λ rest. copied_or (at c.loop-item.copy.entries i) rest i) (sym s) ∙ c.loop-item.invariant.whole i);
      rest = left.1;
    }

pub loop-item-preserved : goal.loop-item-preserved
loop-item-preserved c =
    let s = c.in-Some.ensures.steps in
    let left = subst (AreOf c.args.chains.now.entries) s c.loop-item.invariant.rest in
    record {
      whole = copied_one c.args.chains.now.entries c.loop-item.copy.entries c.insert.new.self.entries c.next.new.self c.in-Some.item.now c.in-Some.versions.now c.in_ok-copy_versions.field-0
          (added c) (c.in_ok-copy_versions.ensures ∙ c.deref.ensures.value) left.0 (λ i. ap (λ rest. copied_or (at c.loop-item.copy.entries i) rest i) (sym s) ∙ c.loop-item.invariant.whole i);
      rest = left.1;
    }

pub returns : goal.returns
returns c =
    let s = c.in-None.ensures.steps in
    copied_all c.args.chains.now.entries c.loop-item.copy.entries (λ i. ap (λ rest. copied_or (at c.loop-item.copy.entries i) rest i) (sym s.0) ∙ c.loop-item.invariant.whole i)
