use Rattle.std.proofs.Common.{refl}
use Rattle.byte_forms.specs.Numbers.{number_of}
use Rattle.byte_forms.specs.Fields.{field, begins_number, number_in}
use Rattle.name_forms.specs.Incs.{next_inc}
use Rattle.paxos_forms.specs.Messages.{next_wire, next_message}
use Rattle.wire_hub.proofs.tests.from_first.Goals as goal

pub returns : goal.returns
unfolding number_of field begins_number number_in next_inc next_wire next_message
returns c = refl
