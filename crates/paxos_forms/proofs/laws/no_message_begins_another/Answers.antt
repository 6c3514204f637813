use Rattle.byte_forms.proofs.FormLemmas.{spelled_once}
use Rattle.paxos_forms.proofs.MessageForms.{message_read}
use Rattle.paxos_forms.proofs.laws.no_message_begins_another.Goals as goal

pub returns : goal.returns
returns k a b c d ia ha ib hb e = spelled_once message_read a b c d (ia, ha) (ib, hb) e
