-- One change more is put.
use Rattle.std.proofs.Common.{◌≡◌, [], map, sym, ap, ◌∙◌, arith}
use Rattle.std.specs.List.{list_all}
use Rattle.key_items.specs.declared.change.Change.{Change}
use Rattle.group_rules.specs.Rows.{changed_row}
use Rattle.row_store.specs.Chains.{row_at, row_now, row_with}
use Rattle.row_store.specs.Inside.{chain_of, is_ready}
use Rattle.row_store.proofs.Folds.{all_more, all_rest, changed_next, row_next, row_with_none, nil_of}
use Rattle.row_store.proofs.chains.put_all.Goals as goal

pub loop-change-init : goal.loop-change-init
loop-change-init c =
    let all = c.into_iter-change-iterator.ensures.into_iter_gives.0 ∙ c.into_vec-change-items.ensures in
    record {
      ready = ap (λ xs. list_all (λ (x : Change). is_ready c.args.gtid (map chain_of c.args.chains.now.entries) x.item) xs) all ∙ c.requires;
      at = λ i e. ap (λ xs. row_with c.args.gtid xs e i (row_at (map chain_of c.args.chains.now.entries) i e)) all;
      now = λ i. ap (λ xs. changed_row i (row_now (map chain_of c.args.chains.now.entries) i) xs) all;
    }

pub put_one-requires : goal.put_one-requires
put_one-requires c =
    (all_rest (λ (x : Change). is_ready c.args.gtid (map chain_of c.loop-change.chains.entries) x.item) c.in-Some.change c.next.new.self.rest.items
    (ap (λ xs. list_all (λ (x : Change). is_ready c.args.gtid (map chain_of c.loop-change.chains.entries) x.item) xs) (sym c.in-Some.ensures.steps.0) ∙ c.loop-change.invariant.ready)).0

pub loop-change-preserved : goal.loop-change-preserved
loop-change-preserved c = record {
  ready =
      all_more (λ (x : Change). is_ready c.args.gtid (map chain_of c.loop-change.chains.entries) x.item) (λ (x : Change). is_ready c.args.gtid (map chain_of c.put_one.new.chains.entries) x.item) c.next.new.self.rest.items
      (λ x h. c.put_one.ensures.ready x.item h)
      ((all_rest (λ (x : Change). is_ready c.args.gtid (map chain_of c.loop-change.chains.entries) x.item) c.in-Some.change c.next.new.self.rest.items
      (ap (λ xs. list_all (λ (x : Change). is_ready c.args.gtid (map chain_of c.loop-change.chains.entries) x.item) xs) (sym c.in-Some.ensures.steps.0) ∙ c.loop-change.invariant.ready)).1);
  at = λ i e.
      ap (row_with c.args.gtid c.next.new.self.rest.items e i) (c.put_one.ensures.at i e)
      ∙ (row_next c.args.gtid e i (row_at (map chain_of c.loop-change.chains.entries) i e) c.in-Some.change c.next.new.self.rest.items
      ∙ (ap (λ xs. row_with c.args.gtid xs e i (row_at (map chain_of c.loop-change.chains.entries) i e)) (sym c.in-Some.ensures.steps.0) ∙ c.loop-change.invariant.at i e));
  now = λ i.
      ap (λ r. changed_row i r c.next.new.self.rest.items) (c.put_one.ensures.now i)
      ∙ (changed_next i (row_now (map chain_of c.loop-change.chains.entries) i) c.in-Some.change c.next.new.self.rest.items
      ∙ (ap (λ xs. changed_row i (row_now (map chain_of c.loop-change.chains.entries) i) xs) (sym c.in-Some.ensures.steps.0) ∙ c.loop-change.invariant.now i));
}

none : (c : goal.After-drop-change-iterator) → c.loop-change.change-iterator.rest.items ≡ []
none c = nil_of c.loop-change.change-iterator.rest.items (omega (arith, c.in-None.ensures.steps.0, c.loop-change.change-iterator.rest.ok.0))

pub returns-clause-at : goal.returns-clause-at
returns-clause-at c i e =
    sym (row_with_none c.args.gtid e i (row_at (map chain_of c.loop-change.chains.entries) i e))
    ∙ (ap (λ xs. row_with c.args.gtid xs e i (row_at (map chain_of c.loop-change.chains.entries) i e)) (sym (none c)) ∙ c.loop-change.invariant.at i e)

pub returns-clause-now : goal.returns-clause-now
returns-clause-now c i = ap (λ xs. changed_row i (row_now (map chain_of c.loop-change.chains.entries) i) xs) (sym (none c)) ∙ c.loop-change.invariant.now i
