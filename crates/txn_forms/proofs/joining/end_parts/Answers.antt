use Rattle.std.proofs.Common.{◌≡◌, List, true, false, sym, ap, ◌∙◌}
use Rattle.gr_ids.specs.declared.names.OpenParts.{OpenParts}
use Rattle.txn_forms.specs.PartPlaces.{has_parts}
use Rattle.txn_forms.proofs.OpenPlaces.{parts_remove, parts_stay}
use Rattle.txn_forms.proofs.joining.end_parts.Goals as goal

pub returns-then-has_parts : goal.returns-then-has_parts
returns-then-has_parts c =
    let there : has_parts c.args.parts.now.items c.args.at c.args.origin ≡ true = ap (λ (ps : List OpenParts). has_parts ps c.args.at c.args.origin) (sym c.deref.ensures.value) ∙ sym c.if-has_parts.ensures in
    c.remove.ensures.items ∙ sym (parts_remove c.args.parts.now.items c.args.origin c.args.at c.requires there)

pub returns-else-has_parts : goal.returns-else-has_parts
returns-else-has_parts c =
    let other : has_parts c.args.parts.now.items c.args.at c.args.origin ≡ false = ap (λ (ps : List OpenParts). has_parts ps c.args.at c.args.origin) (sym c.deref.ensures.value) ∙ sym c.if-has_parts.ensures in
    sym (parts_stay c.args.parts.now.items c.args.origin c.args.at c.requires other)
