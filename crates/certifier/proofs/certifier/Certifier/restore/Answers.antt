-- What a donor told is sound.
use Rattle.std.proofs.Common.{◌*◌, ap, ◌∙◌}
use Rattle.certifier.specs.Certifying.{numbers_told}
use Rattle.certifier.proofs.Bounds.{told_below}
use Rattle.certifier.proofs.certifier.Certifier.restore.Goals as goal

pub invariant_of-result : goal.invariant_of-result
invariant_of-result c = record {
  least = c.requires.least;
  most = c.requires.most;
  numbers = told_below (c.args.blocks * c.args.block) c.args.last c.in_ok-last_by_origin.field-0.entries c.requires.of_blocks (c.in_ok-last_by_origin.ensures ∙ ap numbers_told c.as_slice.ensures);
}
