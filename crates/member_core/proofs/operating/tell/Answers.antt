use Rattle.std.proofs.lemmas.Result.{on_ok_weaker}
use Rattle.member_core.proofs.Operated.{tells_so}
use Rattle.member_core.proofs.operating.tell.Goals as goal

pub returns : goal.returns
returns c = on_ok_weaker c.send.result (λ d. tells_so c.in_ok-executed.executed c.args.moment.now c.send.new.moment c.in_ok-executed.ensures d) c.send.ensures
