use Rattle.paxos_ranges.proofs.Rows.{founder_in_range, joiner_in_range, step_in_range, step_spelt, take_in_range}
use Rattle.paxos_ranges.proofs.nodes_stay_in_range.Goals as goal

pub returns-clause-founder : goal.returns-clause-founder
returns-clause-founder c = founder_in_range

pub returns-clause-joiner : goal.returns-clause-joiner
returns-clause-joiner c = joiner_in_range

pub returns-clause-step : goal.returns-clause-step
returns-clause-step c = step_in_range

pub returns-clause-sent : goal.returns-clause-sent
returns-clause-sent c = step_spelt

pub returns-clause-take : goal.returns-clause-take
returns-clause-take c = take_in_range
