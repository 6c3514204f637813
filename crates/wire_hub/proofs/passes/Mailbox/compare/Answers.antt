use Rattle.std.proofs.Common.{ap, ◌∙◌}
use Rattle.wire_hub.proofs.Keeps.{owns, hears_more}
use Rattle.wire_hub.proofs.passes.Mailbox.compare.Goals as goal

pub absorb-requires-clause-rule : goal.absorb-requires-clause-rule
absorb-requires-clause-rule g c = hears_more _ _ _ _

pub len_as-requires-clause-rule : goal.len_as-requires-clause-rule
len_as-requires-clause-rule g c = owns _ _ (ap (λ v. v.role) c.absorb.ensures.rule ∙ c.args.port.now.sends.0)
