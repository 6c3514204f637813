-- The body is sent, then the session is told.
use Rattle.std.proofs.Common.{refl}
use Rattle.member_moment.proofs.CommitAsked.{txn_is_sent}
use Rattle.member_moment.proofs.moment.Moment.send_txn.Goals as goal

pub returns : goal.returns
returns c =
    txn_is_sent c.args.self.now c.send_body.new.self _ c.args.session c.args.body _ c.sent-answer.result c.in_ok-send_body.ensures.rest c.in_ok-send_body.ensures.others
    c.made.ensures c.sent-answer.ensures.answer c.sent-answer.ensures.called refl c.in_ok-push.ensures.items
