-- None so far has the GTID.
use Rattle.std.proofs.Common.{◌≡◌, true, not, take}
use Rattle.std.specs.List.{list_all}
use Rattle.member_parts.proofs.Owns.{is_of}
use Rattle.member_parts.proofs.own.index_of.Given as goal

abbrev pub invariant-loop-at : goal.invariant-loop-at
invariant-loop-at l = list_all (λ w. not (is_of l.gtid w)) (take l.at l.waiting) ≡ true
