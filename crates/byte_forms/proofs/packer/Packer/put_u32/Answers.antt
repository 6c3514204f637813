use Rattle.byte_forms.proofs.NumberLemmas.{number_4}
use Rattle.byte_forms.proofs.packer.Packer.put_u32.Goals as goal

pub returns-clause-ok : goal.returns-clause-ok
returns-clause-ok c = rw (← number_4 c.args.n, ← c.to_be_bytes.ensures) c.put_slice.ensures.ok
