use Rattle.std.proofs.lemmas.Result.{on_ok_weaker}
use Rattle.std.proofs.Common.{refl}
use Rattle.member_core.proofs.Listening.{no_welcome, votes_not, votes_yes}
use Rattle.member_core.proofs.hearing.hear_in_error.Goals as goal

pub returns-then-not-asks_vote : goal.returns-then-not-asks_vote
returns-then-not-asks_vote c = votes_not c.args.message c.args.moment.now c.if-not-asks_vote.ensures

pub hear_at_node-requires-clause-other : goal.hear_at_node-requires-clause-other
hear_at_node-requires-clause-other c = no_welcome c.args.message c.if-not-asks_vote.ensures

pub returns : goal.returns
returns c = on_ok_weaker c.hear_at_node.result (λ d. votes_yes c.args.message c.args.moment.now c.heard.new.self c.hear_at_node.new.moment c.if-not-asks_vote.ensures (c.heard.ensures c.args.message refl) d) c.hear_at_node.ensures
