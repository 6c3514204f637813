-- The incarnation goes to its place.
use Rattle.std.proofs.Common.{◌≡◌, not, arith, sym, ◌∙◌, ap}
use Rattle.std.specs.List.{prefix_len}
use Rattle.std.proofs.lemmas.List.Sums.{prefix_len-le-length}
use Rattle.gr_ids.specs.declared.names.Inc.{Inc}
use Rattle.gr_ids.specs.Names.{inc_lt}
use Rattle.slot_values.proofs.Places.{inc_inserts}
use Rattle.slot_values.proofs.reading.add_inc.Goals as goal

pub insert-requires : goal.insert-requires
insert-requires c =
    let at : c.inc_place-at.result ≡ prefix_len (λ i. not (inc_lt c.args.inc i)) c.args.incs.now.items = c.inc_place-at.ensures ∙ ap (λ l. prefix_len (λ (i : Inc). not (inc_lt c.args.inc i)) l) c.deref.ensures.value in
    omega (arith, prefix_len-le-length (λ (i : Inc). not (inc_lt c.args.inc i)) c.args.incs.now.items, c.args.incs.now.ok.0)

pub returns-clause-ok : goal.returns-clause-ok
returns-clause-ok c =
    let at : c.inc_place-at.result ≡ prefix_len (λ i. not (inc_lt c.args.inc i)) c.args.incs.now.items = c.inc_place-at.ensures ∙ ap (λ l. prefix_len (λ (i : Inc). not (inc_lt c.args.inc i)) l) c.deref.ensures.value in
    c.in_ok-insert.ensures.items ∙ sym (inc_inserts c.args.incs.now.items c.args.inc c.inc_place-at.result at c.requires)
