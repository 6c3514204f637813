-- What is given is sent.
use Rattle.std.proofs.Common.{subst, ◌∙◌}
use Rattle.std.specs.Prelude.{IfSome}
use Rattle.std.proofs.lemmas.Result.{on_ok_weaker}
use Rattle.member_moment.specs.Giving.{IsShort}
use Rattle.member_moment.proofs.Greeted.{gives_nothing, gives_so}
use Rattle.member_moment.proofs.moment.Moment.hear_ask.Goals as goal

pub returns-in-None : goal.returns-in-None
returns-in-None c = gives_nothing c.args.self.now c.args.from c.args.ask.now.place c.args.ask.now.executed (λ base a st. c.in_ok-give.ensures.given base a st ∙ c.in-None.is)

pub returns-in-Some : goal.returns-in-Some
returns-in-Some c = on_ok_weaker c.send.result (λ d. gives_so c.args.self.now c.send.new.self c.args.from c.args.ask.now.place c.args.ask.now.executed c.in-Some.give c.requires
    (subst (λ o. IfSome o IsShort) c.in-Some.is c.in_ok-give.ensures.short) (λ base a st. c.in_ok-give.ensures.given base a st ∙ c.in-Some.is) d) c.send.ensures
