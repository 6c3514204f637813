use Rattle.std.proofs.Common.{List, None, sym, subst}
use Rattle.byte_forms.specs.Lists.{IsChain}
use Rattle.gr_ids.specs.declared.names.OpenParts.{OpenParts}
use Rattle.name_forms.specs.OpenParts.{IsOpenAfter}
use Rattle.txn_forms.proofs.OpenPlaces.{chain_without}
use Rattle.txn_forms.proofs.parts.Parts.left.Goals as goal

pub invariant_of-self : goal.invariant_of-self
invariant_of-self c = subst (λ (ps : List OpenParts). IsChain IsOpenAfter None ps) (sym c.end_parts.ensures) (chain_without c.self.inside.by_origin.items None c.args.origin c.self.invariant)
