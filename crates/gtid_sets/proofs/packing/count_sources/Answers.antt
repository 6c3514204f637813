use Rattle.std.proofs.Common.{arith}
use Rattle.gtid_sets.proofs.SourcePacks.{first_at, counted_on}
use Rattle.gtid_sets.proofs.packing.count_sources.Goals as goal

pub loop-at-smaller : goal.loop-at-smaller
loop-at-smaller c =
    let f = first_at c.args.runs.now c.loop-at.at c.len_of_source-n.result _ c.loop-at-test.true c.len_of_source-n.ensures.count (omega arith) in
    omega (arith, f.some, f.within)

pub loop-at-preserved : goal.loop-at-preserved
loop-at-preserved c =
    let f = first_at c.args.runs.now c.loop-at.at c.len_of_source-n.result _ c.loop-at-test.true c.len_of_source-n.ensures.count (omega arith) in
    record {
      within = f.within;
      few = omega (arith, f.some, c.loop-at.invariant.few);
      counted = counted_on c.args.runs.now c.loop-at.at c.len_of_source-n.result _ c.loop-at.count _ f c.loop-at.invariant.counted;
    }
