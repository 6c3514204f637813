-- What retain leaves is the filtered list.
use Rattle.std.proofs.Common.{not, rules}
use Rattle.std.proofs.lemmas.Fn.{filter_same}
use Rattle.gr_ids.specs.declared.names.Inc.{Inc}
use Rattle.gr_ids.specs.Names.{inc_eq}
use Rattle.prepare_acks.proofs.acks.drop_member.Goals as goal

pub returns : goal.returns
returns c = filter_same _ (λ (m : Inc). not (inc_eq m c.args.inc)) _ (λ x b f h. search rules) _ _ c.retain.ensures.filtered
