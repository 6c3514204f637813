-- Those so far, with those that are left.
use Rattle.std.proofs.Common.{◌≡◌, ◌++◌, map, drop}
use Rattle.group_rules.specs.Recovery.{certs_given}
use Rattle.member_joining.specs.Reading.{cert_of_given}
use Rattle.member_joining.proofs.reading.read_given.Given as goal

abbrev pub invariant-loop-one : goal.invariant-loop-one
invariant-loop-one l =
    (map cert_of_given l.read.items ++ certs_given (drop l.one-index l.given) ≡ certs_given l.given)
    × (map (λ t. t.given) l.read.items ++ drop l.one-index l.given ≡ l.given)
