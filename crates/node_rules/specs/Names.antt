-- The names of the types that the rows of a node speak of, passed on. The variant `Welcome` of a message is called Greet here, beside the record Welcome.
pub use Rattle.gr_ids.specs.declared.names.Inc.{Inc}
pub use Rattle.gr_ids.specs.declared.names.Ballot.{Ballot}
pub use Rattle.gr_ids.specs.declared.names.ValueId.{ValueId}
pub use Rattle.gr_ids.specs.declared.levels.MemberState.{MemberState}
pub use Rattle.gr_ids.specs.declared.levels.MemberState.TheVariants.{Online, Recovering}
pub use Rattle.gr_ids.specs.declared.levels.Mode.{Mode}
pub use Rattle.gr_ids.specs.declared.levels.Mode.TheVariants.{Single, Multi}
pub use Rattle.slot_values.specs.declared.value.Joiner.{Joiner}
pub use Rattle.slot_values.specs.declared.value.What.{What}
pub use Rattle.slot_values.specs.declared.value.What.TheVariants.{Noop, Add, Remove, Body}
pub use Rattle.slot_values.specs.declared.value.Value.{Value}
pub use Rattle.slot_values.specs.declared.value.Vote.{Vote}
pub use Rattle.slot_values.specs.declared.kept.Kept.{Kept}
pub use Rattle.slot_values.specs.declared.kept.Kept.TheVariants.{At, Skipped}
pub use Rattle.slot_values.specs.declared.member.Member.{Member}
pub use Rattle.slot_values.specs.declared.turns_at.TurnsAt.{TurnsAt}
pub use Rattle.paxos_forms.specs.declared.message.Message.{Message}
pub use Rattle.paxos_forms.specs.declared.message.Wire.{Wire}
pub use Rattle.paxos_forms.specs.declared.message.Wire.TheVariants.{Prepare, Promise, Accept, Accepted, Learn, Offer, Ask, Give, Alive, Gone}
pub use Rattle.paxos_forms.specs.declared.message.Wire.TheVariants.{Welcome as Greet}
pub use Rattle.paxos_forms.specs.declared.welcome.Welcome.{Welcome}
pub use Rattle.paxos_forms.specs.declared.welcome.WelcomeMember.{WelcomeMember}
pub use Rattle.node_rules.specs.declared.event.PaxosEvent.{PaxosEvent}
pub use Rattle.node_rules.specs.declared.event.PaxosEvent.TheVariants.{Heard, Own, Campaign, Tick, Propose}
pub use Rattle.node_rules.specs.declared.taken.Taken.{Taken}
