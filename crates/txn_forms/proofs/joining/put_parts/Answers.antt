use Rattle.std.proofs.Common.{◌≡◌, List, Some, true, false, sym, ap, ◌∙◌, arith}
use Rattle.gr_ids.specs.declared.names.OpenParts.{OpenParts}
use Rattle.txn_forms.specs.PartPlaces.{has_parts}
use Rattle.txn_forms.proofs.OpenPlaces.{within-parts_before, parts_set, parts_insert}
use Rattle.txn_forms.proofs.joining.put_parts.Goals as goal

pub returns-then-has_parts-clause-ok : goal.returns-then-has_parts-clause-ok
returns-then-has_parts-clause-ok c =
    let there : has_parts c.args.parts.now.items c.args.at c.args.first.origin ≡ true = ap (λ (ps : List OpenParts). has_parts ps c.args.at c.args.first.origin) (sym c.deref.ensures.value) ∙ sym c.if-has_parts.ensures in
    sym (parts_set c.args.parts.now.items c.args.first.origin c.args.at c.args.first c.requires there)

pub insert-requires : goal.insert-requires
insert-requires c = omega (arith, c.requires, within-parts_before c.args.parts.now.items c.args.first.origin)

pub returns-clause-ok : goal.returns-clause-ok
returns-clause-ok c =
    let other : has_parts c.args.parts.now.items c.args.at c.args.first.origin ≡ false = ap (λ (ps : List OpenParts). has_parts ps c.args.at c.args.first.origin) (sym c.deref.ensures.value) ∙ sym c.if-has_parts.ensures in
    c.in_ok-insert.ensures.items ∙ sym (parts_insert c.args.parts.now.items c.args.first.origin c.args.at c.args.first c.requires other)
