use Rattle.std.proofs.Common.{◌<◌, ◌≤◌, length, sym, ap, arith}
use Rattle.world_wire.specs.Nexts.{is_next_at}
use Rattle.world_wire.proofs.Dropping.{find_here, find_on, find_none}
use Rattle.world_wire.proofs.lane.Lane.first_next.Goals as goal

pub returns-then-is_letter_next : goal.returns-then-is_letter_next
returns-then-is_letter_next c =
    let same = ap (λ l. l.indexes) c.self.view_is in
    let within : c.loop-at.at < length c.args.self.now.indexes = omega (arith, c.loop-at-test.true, c.len-at-end.ensures, c.self.inside.indexes.ok.0, ap length same) in
    find_here (is_next_at c.args.among.now c.args.running.now c.args.letters.now) c.args.self.now.indexes c.loop-at.at c.index-index.result.now c.loop-at.invariant within (rw (← same) c.index-index.ensures) (sym c.if-is_letter_next.ensures)

pub loop-at-preserved : goal.loop-at-preserved
loop-at-preserved c =
    let same = ap (λ l. l.indexes) c.self.view_is in
    let within : c.loop-at.at < length c.args.self.now.indexes = omega (arith, c.loop-at-test.true, c.len-at-end.ensures, c.self.inside.indexes.ok.0, ap length same) in
    find_on (is_next_at c.args.among.now c.args.running.now c.args.letters.now) c.args.self.now.indexes c.loop-at.at c.index-index.result.now c.loop-at.invariant within (rw (← same) c.index-index.ensures) (sym c.if-is_letter_next.ensures)

pub returns : goal.returns
returns c =
    let same = ap (λ l. l.indexes) c.self.view_is in
    let behind : length c.args.self.now.indexes ≤ c.loop-at.at = omega (arith, c.loop-at-test.false, c.len-at-end.ensures, c.self.inside.indexes.ok.0, ap length same) in
    find_none (is_next_at c.args.among.now c.args.running.now c.args.letters.now) c.args.self.now.indexes c.loop-at.at c.loop-at.invariant behind
