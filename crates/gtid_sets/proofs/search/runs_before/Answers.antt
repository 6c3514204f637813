use Rattle.std.proofs.Common.{◌<◌, ◌-◌, ◌+◌, ◌/◌, length, arith}
use Rattle.gtid_sets.proofs.Searching.{within-runs_before, place_le, place_gt}
use Rattle.gtid_sets.proofs.search.runs_before.Goals as goal

pub loop-low-init : goal.loop-low-init
loop-low-init c = record { low = omega arith; high = within-runs_before c.args.runs.now c.args.gtid; within = omega arith }

pub loop-low-preserved-then-is_before : goal.loop-low-preserved-then-is_before
loop-low-preserved-then-is_before c =
    let within : c.loop-low.low + (c.loop-low.high - c.loop-low.low) / 2 < length c.args.runs.now = omega (arith, c.loop-low.invariant.within) in
    let lt = place_gt c.args.runs.now c.args.gtid _ _ c.single-wanted.result c.single-wanted.ensures.run c.single-wanted.ensures.uuid c.requires within c.if-is_before.ensures in
    record { low = omega (arith, lt); high = c.loop-low.invariant.high; within = c.loop-low.invariant.within }

pub loop-low-preserved : goal.loop-low-preserved
loop-low-preserved c =
    let within : c.loop-low.low + (c.loop-low.high - c.loop-low.low) / 2 < length c.args.runs.now = omega (arith, c.loop-low.invariant.within) in
    record { low = c.loop-low.invariant.low; high = place_le c.args.runs.now c.args.gtid _ _ c.single-wanted.result c.single-wanted.ensures.run within c.if-is_before.ensures; within = omega (arith, c.loop-low.invariant.within) }
