use Rattle.member_moment.proofs.Came.{came_untold}
use Rattle.member_moment.proofs.arriving.some_events_come_untold.Goals as goal

pub returns : goal.returns
returns c = came_untold
