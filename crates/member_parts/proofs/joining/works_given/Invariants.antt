-- Those that are left, queued one after another, give the whole.
use Rattle.std.proofs.Common.{◌≡◌, drop}
use Rattle.member_parts.specs.Remote.{no_remote, with_works}
use Rattle.member_parts.proofs.joining.works_given.Given as goal

abbrev pub invariant-loop-given : goal.invariant-loop-given
invariant-loop-given l = with_works l.me l.executed l.remotes (drop l.given-index l.txns) ≡ with_works l.me l.executed no_remote l.txns
