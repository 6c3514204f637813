use Rattle.std.proofs.lemmas.Result.{on_ok_weaker}
use Rattle.group_rules.specs.Member.{own_body}
use Rattle.group_rules.specs.Steps.{reply_sent}
use Rattle.member_core.proofs.Operated.{is_done, is_refused, sends_so}
use Rattle.member_core.proofs.operating.send.Goals as goal

pub returns-then-not-is_up : goal.returns-then-not-is_up
returns-then-not-is_up c = on_ok_weaker c.refuse.result (λ d. is_refused (reply_sent (own_body c.args.body.now)) c.args.moment.now c.refuse.new.moment c.if-not-is_up.ensures d) c.refuse.ensures

pub returns : goal.returns
returns c =
    on_ok_weaker c.reply.result
    (λ d. is_done (reply_sent (own_body c.args.body.now)) c.args.moment.now c.reply.new.self c.if-not-is_up.ensures
    (sends_so (own_body c.args.body.now) c.in_ok-id.id c.args.moment.now c.own_body.new.self c.reply.new.self c.in_ok-id.ensures c.in_ok-own_body.ensures d)) c.reply.ensures
