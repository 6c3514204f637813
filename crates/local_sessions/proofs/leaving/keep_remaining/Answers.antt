-- What retain leaves is the filtered list.
use Rattle.std.proofs.Common.{rules}
use Rattle.std.proofs.lemmas.Fn.{filter_same}
use Rattle.local_sessions.specs.Others.{remains}
use Rattle.local_sessions.proofs.leaving.keep_remaining.Goals as goal

pub returns : goal.returns
returns c = filter_same _ remains _ (λ x b f h. search rules) _ _ c.retain.ensures.filtered
