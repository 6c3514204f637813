-- None, or the first.
use Rattle.apply_queue.proofs.Commits.{absent, apart, behind, first_out}
use Rattle.apply_queue.proofs.laws.commits_take_the_first.Goals as goal

pub returns-clause-absent : goal.returns-clause-absent
returns-clause-absent c = absent

pub returns-clause-first : goal.returns-clause-first
returns-clause-first c = first_out

pub returns-clause-apart : goal.returns-clause-apart
returns-clause-apart c = apart

pub returns-clause-behind : goal.returns-clause-behind
returns-clause-behind c = behind
