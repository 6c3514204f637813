use Rattle.std.proofs.lemmas.Result.{on_ok_weaker}
use Rattle.member_core.proofs.Listening.{offers_add, offers_on, without_number}
use Rattle.paxos_forms.specs.declared.message.Wire.TheVariants.{Offer}
use Rattle.member_core.specs.Hearing.{message_of}
use Rattle.member_core.proofs.hearing.hear_offer.Goals as goal

pub hear_add-requires : goal.hear_add-requires
hear_add-requires c = without_number c.args.value c.requires.wire c.if-value-eq0.true

pub returns-then-value-eq0 : goal.returns-then-value-eq0
returns-then-value-eq0 c = on_ok_weaker c.hear_add.result (λ d. offers_add (message_of c.args.from c.args.to (Offer c.args.value)) c.args.value c.args.moment.now c.hear_add.new.moment c.if-value-eq0.true d) c.hear_add.ensures

pub returns : goal.returns
returns c = on_ok_weaker c.hear_at_node.result (λ d. offers_on (message_of c.args.from c.args.to (Offer c.args.value)) c.args.value c.args.moment.now c.hear_at_node.new.moment c.if-value-eq0.false d) c.hear_at_node.ensures
