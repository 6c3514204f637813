use Rattle.member_truth.proofs.Grown.{promised_before}
use Rattle.member_truth.proofs.promises_are_of_the_past.Goals as goal

pub returns-clause-before : goal.returns-clause-before
returns-clause-before c = promised_before
