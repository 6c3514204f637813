-- A body spells no transaction.
use Rattle.std.proofs.Common.{◌∙◌, refl, sym}
use Rattle.member_joining.proofs.Readings.{none_left}
use Rattle.member_joining.proofs.reading.read_given.Goals as goal

pub returns-in-None-clause-certs : goal.returns-in-None-clause-certs
returns-in-None-clause-certs c =
    none_left c.loop-one.read.items c.args.given.now c.loop-one.one-index c.one-item.result c.loop-one-test.true c.one-item.is
    c.loop-one.invariant.0 c.loop-one.invariant.1 (sym c.in_ok-txn.ensures.txn ∙ rw c.in-None.is refl)
