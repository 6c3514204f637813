use Rattle.std.proofs.Common.{arith, sym, ap, ◌∙◌, Some}
use Rattle.std.proofs.lemmas.List.{length-replicate}
use Rattle.slot_values.proofs.Effects.{incs_of_founders, latest_of_same}
use Rattle.slot_values.proofs.turns.Turns.new.Goals as goal

pub invariant_of-result : goal.invariant_of-result
invariant_of-result c = record {
  places = omega arith;
  begins = omega arith;
  reaches = rw c.in_ok-repeated.ensures (omega (arith, length-replicate c.args.horizon c.args.founders.now));
  latest = rw (c.in_ok-repeated.ensures, c.in_ok-unkept.ensures, incs_of_founders) (latest_of_same c.args.horizon c.args.founders.now c.requires);
}
