use Rattle.std.proofs.lemmas.Result.{on_ok_weaker}
use Rattle.std.proofs.Common.{refl}
use Rattle.group_rules.specs.Events.{Hears}
use Rattle.member_core.proofs.Acted.{takes}
use Rattle.member_core.proofs.acting.take_message.Goals as goal

pub returns : goal.returns
returns c = on_ok_weaker c.hear.result (λ d. takes (Hears c.args.message) c.args.moment.now c.heard.new.self c.hear.new.moment (c.heard.ensures c.args.message refl) d) c.hear.ensures
