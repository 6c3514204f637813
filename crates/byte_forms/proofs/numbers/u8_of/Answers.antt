use Rattle.std.proofs.Common.{◌≡◌, List, ℕ, [], ◌∷◌, length, get_or, ◌∙◌, refl, arith}
use Rattle.byte_forms.proofs.NumberLemmas.{number_1}
use Rattle.byte_forms.proofs.numbers.u8_of.Goals as goal

lone : (bytes : List ℕ) → length bytes ≡ 1 → get_or bytes 0 0 ∷ [] ≡ bytes
lone [] e = absurd (omega arith)
lone (b ∷ []) e = refl
lone (b ∷ c ∷ bs) e = absurd (omega arith)

pub returns : goal.returns
returns c = number_1 _ (omega (arith, c.type_inv.bytes 0)) ∙ lone c.args.bytes.now c.requires
