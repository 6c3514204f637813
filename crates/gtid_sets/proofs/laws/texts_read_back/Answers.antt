use Rattle.gtid_sets.proofs.ReadBack.{text_back, texts_apart}
use Rattle.gtid_sets.proofs.laws.texts_read_back.Goals as goal

pub returns-clause-read : goal.returns-clause-read
returns-clause-read c = text_back

pub returns-clause-apart : goal.returns-clause-apart
returns-clause-apart c = texts_apart
