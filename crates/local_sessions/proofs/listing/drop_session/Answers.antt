-- What retain leaves is the filtered list.
use Rattle.std.proofs.Common.{not, rules}
use Rattle.std.proofs.lemmas.Fn.{filter_same}
use Rattle.local_sessions.specs.Standing.{Session, is_of}
use Rattle.local_sessions.proofs.listing.drop_session.Goals as goal

pub returns : goal.returns
returns c = filter_same _ (λ (x : Session). not (is_of c.args.session x)) _ (λ x b f h. search rules) _ _ c.retain.ensures.filtered
