use Rattle.std.proofs.Common.{arith}
use Rattle.gtid_sets.specs.Text.{joined_text}
use Rattle.gtid_sets.proofs.SourcePacks.{first_at, bytes_on}
use Rattle.gtid_sets.proofs.text.put_others.Goals as goal

pub loop-at-smaller : goal.loop-at-smaller
loop-at-smaller c =
    let f = first_at c.args.runs.now c.loop-at.at c.len_of_source-n.result _ c.loop-at-test.true c.len_of_source-n.ensures.count (omega arith) in
    omega (arith, f.some, f.within)

pub loop-at-preserved : goal.loop-at-preserved
loop-at-preserved c =
    let f = first_at c.args.runs.now c.loop-at.at c.len_of_source-n.result _ c.loop-at-test.true c.len_of_source-n.ensures.count (omega arith) in
    record {
      within = f.within;
      put = bytes_on joined_text c.args.runs.now c.loop-at.at c.len_of_source-n.result _ _ _ _ f c.in_ok-put_joined.ensures c.loop-at.invariant.put;
    }
