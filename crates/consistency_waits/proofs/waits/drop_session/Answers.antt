-- What retain leaves is the filtered list.
use Rattle.std.proofs.Common.{not, rules}
use Rattle.std.specs.Prelude.{◌==◌}
use Rattle.std.proofs.lemmas.Fn.{filter_same}
use Rattle.consistency_waits.specs.Holding.{Held}
use Rattle.consistency_waits.proofs.waits.drop_session.Goals as goal

pub returns : goal.returns
returns c = filter_same _ (λ (h : Held). not (h.session == c.args.session)) _ (λ x b f h. search rules) _ _ c.retain.ensures.filtered
