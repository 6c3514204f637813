use Rattle.group_lives.proofs.Giving.{gives}
use Rattle.group_lives.proofs.a_give_tells_of_the_list.Goals as goal

pub returns : goal.returns
returns c = λ s base l cs v e h k a kept. gives s base l h k a kept cs v e
