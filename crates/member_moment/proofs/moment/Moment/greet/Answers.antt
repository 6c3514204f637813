-- It is welcomed by those that are ONLINE.
use Rattle.std.proofs.Common.{sym, subst, ◌∙◌}
use Rattle.std.proofs.lemmas.Result.{on_ok_weaker}
use Rattle.member_moment.specs.Giving.{IsGreeting}
use Rattle.member_moment.proofs.Greeted.{greets_down, greets_itself, greets_nobody, greets_so}
use Rattle.member_moment.proofs.moment.Moment.greet.Goals as goal

pub returns-then-not-is_up : goal.returns-then-not-is_up
returns-then-not-is_up c = greets_down c.args.inc c.args.self.now (λ base a st. sym (c.is_up.ensures base a st) ∙ c.if-not-is_up.true)

pub returns-then-eq : goal.returns-then-eq
returns-then-eq c = greets_itself c.args.inc c.args.self.now (sym c.eq.ensures ∙ c.if-eq.true)

pub returns-in-None : goal.returns-in-None
returns-in-None c = greets_nobody c.args.inc c.args.self.now (λ base a st. sym (c.is_up.ensures base a st) ∙ c.if-not-is_up.false) (sym c.eq.ensures ∙ c.if-eq.false)
    (λ base a st up some. subst (λ o. IsGreeting o a) c.in-None.is (c.in_ok-welcome.ensures base a st up some))

pub returns-in-Some : goal.returns-in-Some
returns-in-Some c = on_ok_weaker c.send.result (λ d. greets_so c.args.inc c.args.self.now (λ base a st. sym (c.is_up.ensures base a st) ∙ c.if-not-is_up.false) (sym c.eq.ensures ∙ c.if-eq.false)
    c.send.new.self c.in-Some.welcome (λ base a st up some. subst (λ o. IsGreeting o a) c.in-Some.is (c.in_ok-welcome.ensures base a st up some)) d) c.send.ensures
