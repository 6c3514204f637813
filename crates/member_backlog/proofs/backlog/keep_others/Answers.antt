-- What retain leaves is the filtered list.
use Rattle.std.proofs.Common.{not, rules}
use Rattle.std.proofs.lemmas.Fn.{filter_same}
use Rattle.gr_ids.specs.Names.{gtid_eq}
use Rattle.member_backlog.specs.Waiting.{Uncommitted}
use Rattle.member_backlog.proofs.backlog.keep_others.Goals as goal

pub returns : goal.returns
returns c = filter_same _ (λ (u : Uncommitted). not (gtid_eq c.args.gtid u.gtid)) _ (λ x b f h. search rules) _ _ c.retain.ensures.filtered
