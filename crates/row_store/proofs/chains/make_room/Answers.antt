-- There is room for one more, and still for those before.
use Rattle.std.proofs.Common.{◌≡◌, ◌<◌, true, take, ◌∙◌, arith}
use Rattle.std.specs.Prelude.{nat_lt}
use Rattle.std.specs.List.{list_all}
use Rattle.std.proofs.lemmas.Bool.{lt-ltb, ltb-true}
use Rattle.std.proofs.lemmas.List.Folds.{list_all_more}
use Rattle.key_items.specs.declared.change.Change.{Change}
use Rattle.row_store.proofs.ChainReads.{spare}
use Rattle.row_store.proofs.Folds.{all_more}
use Rattle.row_store.proofs.chains.make_room.Goals as goal

pub loop-change-preserved : goal.loop-change-preserved
loop-change-preserved c = record {
  same = λ i. c.in_ok-make_one.ensures.same i ∙ c.loop-change.invariant.same i;
  room =
      let still : list_all (λ (x : Change). nat_lt 0 (spare c.make_one.new.chains.entries x.item)) (take c.loop-change.change-index c.args.changes.now) ≡ true =
      all_more (λ (x : Change). nat_lt 0 (spare c.loop-change.chains.entries x.item)) (λ (x : Change). nat_lt 0 (spare c.make_one.new.chains.entries x.item)) (take c.loop-change.change-index c.args.changes.now)
      (λ x h. let was : 0 < spare c.loop-change.chains.entries x.item = ltb-true 0 (spare c.loop-change.chains.entries x.item) h in lt-ltb 0 (spare c.make_one.new.chains.entries x.item) (omega (arith, c.in_ok-make_one.ensures.more x.item)))
      c.loop-change.invariant.room in
      let here : nat_lt 0 (spare c.make_one.new.chains.entries c.change-item.result.item) ≡ true = lt-ltb 0 (spare c.make_one.new.chains.entries c.change-item.result.item) c.in_ok-make_one.ensures.ok in
      list_all_more (λ (x : Change). nat_lt 0 (spare c.make_one.new.chains.entries x.item)) c.args.changes.now c.loop-change.change-index c.change-item.result c.loop-change-test.true
      ∙ (rw (still, ← c.change-item.is) here);
}
