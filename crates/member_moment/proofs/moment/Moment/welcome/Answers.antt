-- The log and the view are those of the member.
use Rattle.std.proofs.Common.{length, arith, ap, ◌∙◌}
use Rattle.member_moment.proofs.Greeted.{greeting_is}
use Rattle.member_moment.proofs.moment.Moment.welcome.Goals as goal

pub returns : goal.returns
returns c = greeting_is c.args.self.now c.turns-turns.result.now.turns c.promise.result c.view-view.result.now c.in_ok-welcome.welcome c.turns-turns.ensures c.promise.ensures
    (c.view-view.ensures ∙ ap (λ l. l.view) c.list.ensures) c.in_ok-welcome.ensures
    (let e = ap length c.as_slice.ensures in omega (arith, e, c.if-as_slice-gt-MOST_ITEMS.false))
