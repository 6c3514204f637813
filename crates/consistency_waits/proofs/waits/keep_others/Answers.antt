-- What retain leaves is the filtered list.
use Rattle.std.proofs.Common.{not, rules}
use Rattle.std.proofs.lemmas.Fn.{filter_same}
use Rattle.consistency_waits.specs.Holding.{Held, is_due}
use Rattle.consistency_waits.proofs.waits.keep_others.Goals as goal

pub returns : goal.returns
returns c = filter_same _ (λ (h : Held). not (is_due c.args.now.now.pending h)) _ (λ x b f h. search rules) _ _ c.retain.ensures.filtered
