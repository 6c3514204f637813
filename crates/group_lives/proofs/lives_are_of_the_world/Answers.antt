use Rattle.group_lives.proofs.Runs.{lives_agree}
use Rattle.group_lives.proofs.lives_are_of_the_world.Goals as goal

pub returns : goal.returns
returns c = lives_agree
