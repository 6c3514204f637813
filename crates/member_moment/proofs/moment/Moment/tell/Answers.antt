use Rattle.std.proofs.Common.{refl, ◌∷◌}
use Rattle.group_rules.specs.Events.{Answered}
use Rattle.group_rules.specs.Member.{answer}
use Rattle.member_parts.proofs.Passed.{passes as parts_pass}
use Rattle.member_moment.proofs.Pushed.{rest_said}
use Rattle.member_moment.proofs.Told.{ended}
use Rattle.member_moment.proofs.moment.Moment.tell.Goals as goal

pub returns-clause-rest : goal.returns-clause-rest
returns-clause-rest c = λ base a r.
    ended base (answer c.args.told.session c.args.told.answer a) c.args.told.session (record c.args.self.now { marks = c.push.new.self }) _ refl (c.end_hold.ensures a.setup a.me.inc (Answered c.args.told.session c.args.told.answer ∷ a.life) (parts_pass a.setup a.me.inc a.life (Answered c.args.told.session c.args.told.answer) c.args.self.now.parts refl r.parts))
    (rest_said base a c.args.self.now (Answered c.args.told.session c.args.told.answer) (record c.args.self.now { marks = c.push.new.self }) refl c.in_ok-push.ensures.items (record { parts = refl; own = refl; joining = refl; range = refl; ranged = tt; committed = refl }) r)
