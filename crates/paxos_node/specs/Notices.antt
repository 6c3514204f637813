-- The messages that go to several members.
use Rattle.std.specs.Prelude.{List, map}
use Rattle.gr_ids.specs.declared.names.Inc.{Inc}
use Rattle.gr_ids.specs.declared.names.Ballot.{Ballot}
use Rattle.paxos_leader.specs.declared.missing.Unaccepted.{Unaccepted}
use Rattle.paxos_votes.specs.declared.learner.KnownSlot.{KnownSlot}
use Rattle.paxos_forms.specs.declared.message.Message.{Message}
use Rattle.paxos_forms.specs.declared.message.Wire.{Wire}
use Rattle.paxos_forms.specs.declared.message.Wire.TheVariants as wire
use Rattle.node_rules.specs.Lists.{others}
use Rattle.paxos_node.specs.declared.sending.Notice.{Notice}
use Rattle.paxos_node.specs.declared.sending.Notice.TheVariants.{Prepare, Accept, Learn, Alive}

abbrev pub wire_of : Notice → Wire
wire_of (Prepare b s) = wire.Prepare b s
wire_of (Accept b t v) = wire.Accept b t v.now
wire_of (Learn t v) = wire.Learn t v.now
wire_of (Alive s) = wire.Alive s

abbrev pub told_to : Inc → List Inc → Wire → List Message
told_to me is x = map (λ i. record { from = me; to = i; wire = x }) (others me is)

-- Accept again to those who haven't accepted
abbrev pub accepts_to : Inc → Ballot → Unaccepted → List Message
accepts_to me b u = told_to me u.incs (wire.Accept b u.slot u.value)

-- Learn of a slot that is known here
abbrev pub learn_of : Inc → Inc → KnownSlot → Message
learn_of me to k = record { from = me; to = to; wire = wire.Learn k.slot k.value }
