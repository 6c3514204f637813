use Rattle.turn_log.proofs.Pushes.{in_the_end}
use Rattle.turn_log.proofs.calls.both.Goals as goal

pub returns-clause-first : goal.returns-clause-first
returns-clause-first g c told = let end = c.close-log.ensures in let own = c.join-one.ensures.first.1 in
    in_the_end _ _ end.0 _ own.0 c.args.a (own.1 told) c.join-pass.ensures.seen.0 end.1 end.2

pub returns-clause-second : goal.returns-clause-second
returns-clause-second g c told = let end = c.close-log.ensures in let own = c.join-one.ensures.second.1 in
    in_the_end _ _ end.0 _ own.0 c.args.b (own.1 told) c.join-pass.ensures.seen.1 end.1 end.2
