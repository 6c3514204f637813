use Rattle.std.proofs.Common.{◌+◌, ◌-◌, ◌/◌, ◌<◌, None, length, sym, arith}
use Rattle.txn_forms.proofs.OpenPlaces.{within-parts_before, place_le, place_gt}
use Rattle.txn_forms.proofs.places.parts_before.Goals as goal

pub loop-low-init : goal.loop-low-init
loop-low-init c = record { low = omega arith; high = within-parts_before c.args.parts.now c.args.origin; within = omega arith }

pub loop-low-preserved-then-is_below : goal.loop-low-preserved-then-is_below
loop-low-preserved-then-is_below c =
    let within : c.loop-low.low + (c.loop-low.high - c.loop-low.low) / 2 < length c.args.parts.now = omega (arith, c.loop-low-test.true, c.loop-low.invariant.within) in
    let below = sym c.if-is_below.ensures in
    let lt = place_gt c.args.parts.now None c.args.origin _ c.index-parts-middle.result c.requires within below in
    record { low = omega (arith, lt); high = c.loop-low.invariant.high; within = c.loop-low.invariant.within }

pub loop-low-preserved : goal.loop-low-preserved
loop-low-preserved c =
    let within : c.loop-low.low + (c.loop-low.high - c.loop-low.low) / 2 < length c.args.parts.now = omega (arith, c.loop-low-test.true, c.loop-low.invariant.within) in
    let above = sym c.if-is_below.ensures in
    record { low = c.loop-low.invariant.low; high = place_le c.args.parts.now c.args.origin _ c.index-parts-middle.result within above; within = omega (arith, within, c.loop-low.invariant.within) }
