use Rattle.std.proofs.Common.{sym, ◌∙◌, arith}
use Rattle.std.proofs.lemmas.Nat.{be_bytes_2}
use Rattle.byte_forms.proofs.NumberLemmas.{number_2}
use Rattle.byte_forms.proofs.numbers.u16_of.Goals as goal

pub returns : goal.returns
returns c = sym (number_2 c.from_be_bytes.result) ∙ be_bytes_2 c.args.bytes.now c.from_be_bytes.result c.requires (λ i. omega (arith, c.type_inv.bytes i)) c.from_be_bytes.ensures
