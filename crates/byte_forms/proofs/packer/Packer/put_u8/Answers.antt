use Rattle.byte_forms.proofs.NumberLemmas.{number_1}
use Rattle.byte_forms.proofs.packer.Packer.put_u8.Goals as goal

pub returns-clause-ok : goal.returns-clause-ok
returns-clause-ok c = rw (number_1 c.args.n c.ranges.n.fits) c.put_slice.ensures.ok
