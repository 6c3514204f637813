use Rattle.std.proofs.Common.{None}
use Rattle.txn_forms.specs.Parts.{after_part, parts_of, with_parts}
use Rattle.txn_forms.proofs.Joins.{after_ascends, either}
use Rattle.txn_forms.proofs.parts.Parts.take.Goals as goal

pub invariant_of-self : goal.invariant_of-self
invariant_of-self c =
    let held = c.self.inside.by_origin.items in
    either c.take_part.result c.take_part.new.parts.items (with_parts held c.args.origin (after_part c.args.origin (parts_of held c.args.origin) c.args.part)) held c.take_part.ensures.left c.take_part.ensures.err
    (after_ascends held c.args.origin c.args.part c.self.invariant c.requires.origin c.requires.part) c.self.invariant
