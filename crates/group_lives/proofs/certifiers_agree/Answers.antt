use Rattle.group_lives.proofs.Numbers.{told_agrees, numbers_agree}
use Rattle.group_lives.proofs.Stable.{stable_agrees}
use Rattle.group_lives.proofs.Certified.{verdicts_agree}
use Rattle.group_lives.proofs.certifiers_agree.Goals as goal

pub returns-clause-told : goal.returns-clause-told
returns-clause-told c = λ s base l m h. told_agrees s base m l h

pub returns-clause-stable : goal.returns-clause-stable
returns-clause-stable c = stable_agrees

pub returns-clause-numbers : goal.returns-clause-numbers
returns-clause-numbers c = λ s base l m h z. numbers_agree s m base l h z

pub returns-clause-verdicts : goal.returns-clause-verdicts
returns-clause-verdicts c = verdicts_agree
