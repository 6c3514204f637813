-- Those that are left, kept one after another, give the whole.
use Rattle.std.proofs.Common.{◌≡◌, drop}
use Rattle.member_parts.specs.Entering.{with_all}
use Rattle.member_parts.proofs.joining.keep_all.Given as goal

abbrev pub invariant-loop-given : goal.invariant-loop-given
invariant-loop-given l = record l.donor { certified = with_all l.donor.certified (drop l.given-index l.txns) } ≡ record l.initial.donor { certified = with_all l.initial.donor.certified l.txns }
