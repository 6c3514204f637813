use Rattle.std.proofs.Common.{arith}
use Rattle.byte_forms.proofs.FieldLemmas.{are_bytes_from}
use Rattle.key_items.proofs.fits.bytes_fit.Goals as goal

pub returns : goal.returns
returns c = are_bytes_from c.args.bytes.now (λ i. omega (arith, c.type_inv.bytes i))
