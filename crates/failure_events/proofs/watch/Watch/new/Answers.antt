-- All members are watched from now on.
use Rattle.std.proofs.Common.{refl}
use Rattle.group_rules.specs.Watch.{no_watch}
use Rattle.failure_events.proofs.Watched.{follow_all_is}
use Rattle.failure_events.proofs.watch.Watch.new.Goals as goal

pub returns : goal.returns
returns c = rw (c.in_ok-unheard_of.ensures, follow_all_is no_watch c.args.members.now) refl
