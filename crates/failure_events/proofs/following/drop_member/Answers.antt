-- What retain leaves is the filtered list.
use Rattle.std.proofs.Common.{not, rules}
use Rattle.std.proofs.lemmas.Fn.{filter_same}
use Rattle.group_rules.specs.declared.watch.Silence.{Silence}
use Rattle.gr_ids.specs.Names.{inc_eq}
use Rattle.failure_events.proofs.following.drop_member.Goals as goal

pub returns : goal.returns
returns c = filter_same _ (λ (x : Silence). not (inc_eq x.inc c.args.inc)) _ (λ x b f h. search rules) _ _ c.retain.ensures.filtered
