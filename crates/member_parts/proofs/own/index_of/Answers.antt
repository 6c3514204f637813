-- One with the GTID stands there, or nowhere.
use Rattle.std.proofs.Common.{◌<◌, ◌≤◌, length, sym, arith}
use Rattle.member_parts.proofs.Owns.{all_pass, stands_at}
use Rattle.member_parts.proofs.own.index_of.Goals as goal

pub returns-then-is_of : goal.returns-then-is_of
returns-then-is_of c =
    let within : c.loop-at.at < length c.args.waiting.now = omega (arith, c.loop-at-test.true) in
    stands_at c.args.gtid c.args.waiting.now c.loop-at.at c.index-waiting-at.result c.loop-at.invariant within c.index-waiting-at.is (sym c.if-is_of.ensures)

pub returns : goal.returns
returns c =
    let behind : length c.args.waiting.now ≤ c.loop-at.at = omega (arith, c.loop-at-test.false) in
    all_pass c.args.gtid c.args.waiting.now c.loop-at.at c.loop-at.invariant behind
