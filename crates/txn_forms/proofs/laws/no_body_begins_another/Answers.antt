use Rattle.byte_forms.proofs.FormLemmas.{spelled_once}
use Rattle.txn_forms.proofs.BodyForms.{body_read}
use Rattle.txn_forms.proofs.laws.no_body_begins_another.Goals as goal

pub returns : goal.returns
returns k a b c d ia ha ib hb e = spelled_once body_read a b c d (ia, ha) (ib, hb) e
