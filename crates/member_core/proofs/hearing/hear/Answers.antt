use Rattle.std.proofs.lemmas.Result.{on_ok_weaker}
use Rattle.paxos_forms.specs.declared.message.Wire.TheVariants.{Ask, Give, Gone, Offer, Welcome}
use Rattle.member_core.proofs.Listening.{as_said, hears_other, is_no_welcome}
use Rattle.member_core.proofs.hearing.hear.Goals as goal

pub returns-in-Ask : goal.returns-in-Ask
returns-in-Ask c = on_ok_weaker c.hear_ask.result (λ d. as_said c.args.message (Ask c.in-Ask.ask) c.args.moment.now c.hear_ask.new.self c.in-Ask.is d) c.hear_ask.ensures

pub returns-in-Give : goal.returns-in-Give
returns-in-Give c = on_ok_weaker c.hear_give.result (λ d. as_said c.args.message (Give c.in-Give.give) c.args.moment.now c.hear_give.new.self c.in-Give.is d) c.hear_give.ensures

pub returns-in-Offer : goal.returns-in-Offer
returns-in-Offer c = on_ok_weaker c.hear_offer.result (λ d. as_said c.args.message (Offer c.in-Offer.value) c.args.moment.now c.hear_offer.new.moment c.in-Offer.is d) c.hear_offer.ensures

pub returns-in-Welcome : goal.returns-in-Welcome
returns-in-Welcome c = on_ok_weaker c.hear_welcome.result (λ d. as_said c.args.message (Welcome c.in-Welcome.welcome) c.args.moment.now c.hear_welcome.new.moment c.in-Welcome.is d) c.hear_welcome.ensures

pub returns-in-Gone : goal.returns-in-Gone
returns-in-Gone c = on_ok_weaker c.hear_gone.result (λ d. as_said c.args.message Gone c.args.moment.now c.hear_gone.new.moment c.in-Gone.is d) c.hear_gone.ensures

pub hear_else-requires-clause-other : goal.hear_else-requires-clause-other
hear_else-requires-clause-other c = is_no_welcome c.args.message c.in_default.not-Welcome

pub returns-in_default : goal.returns-in_default
returns-in_default c =
    on_ok_weaker c.hear_else.result
    (λ d. hears_other c.args.message c.args.moment.now c.hear_else.new.moment c.in_default.not-Ask c.in_default.not-Give c.in_default.not-Offer c.in_default.not-Welcome c.in_default.not-Gone d) c.hear_else.ensures
