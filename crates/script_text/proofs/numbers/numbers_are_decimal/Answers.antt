use Rattle.script_text.proofs.Decimals.{to_decimal, from_decimal}
use Rattle.script_text.proofs.numbers.numbers_are_decimal.Goals as goal

pub returns : goal.returns
returns c = λ word number. (to_decimal word number, λ h. from_decimal word number h.0 h.1)
