use Rattle.group_lives.proofs.Sets.{executed_agrees}
use Rattle.group_lawful.proofs.Marks.{lawful_finish}
use Rattle.group_lawful.proofs.Lawfuls.{lawful_commit}
use Rattle.group_lawful.proofs.Begins.{lawful_begun}
use Rattle.group_lawful.proofs.marks_are_lawful.Goals as goal

pub returns-clause-commits : goal.returns-clause-commits
returns-clause-commits c t i base l g x k o sets distinct = lawful_commit t i base l g x k o (λ h. executed_agrees base l h sets) sets distinct

pub returns-clause-begins : goal.returns-clause-begins
returns-clause-begins c = lawful_begun

pub returns-clause-finishes : goal.returns-clause-finishes
returns-clause-finishes c = lawful_finish
