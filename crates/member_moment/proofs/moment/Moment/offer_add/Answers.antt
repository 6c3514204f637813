use Rattle.std.proofs.lemmas.Result.{on_ok_weaker}
use Rattle.member_moment.proofs.Offered.{offers_so}
use Rattle.member_moment.proofs.moment.Moment.offer_add.Goals as goal

pub returns : goal.returns
returns c = on_ok_weaker c.send.result (λ d. offers_so c.args.self.now c.send.new.self c.what_members_send_is_spelt.ensures.add d) c.send.ensures
