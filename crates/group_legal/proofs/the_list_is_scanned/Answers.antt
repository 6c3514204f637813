use Rattle.group_legal.proofs.Scanned.{takes, scanned}
use Rattle.group_legal.proofs.Newcomers.{adds_new}
use Rattle.group_legal.proofs.Numbered.{kept_list}
use Rattle.group_legal.proofs.the_list_is_scanned.Goals as goal

pub returns-clause-taking : goal.returns-clause-taking
returns-clause-taking c = takes

pub returns-clause-scanned : goal.returns-clause-scanned
returns-clause-scanned c = scanned

pub returns-clause-adds_new : goal.returns-clause-adds_new
returns-clause-adds_new c = adds_new

pub returns-clause-numbered : goal.returns-clause-numbered
returns-clause-numbered c = λ t base log. (kept_list t base log).0
