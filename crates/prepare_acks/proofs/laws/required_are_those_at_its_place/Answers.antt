-- Of an entry, and of what else happens.
use Rattle.prepare_acks.proofs.Entries.{passes_required, required_later, required_one}
use Rattle.prepare_acks.proofs.laws.required_are_those_at_its_place.Goals as goal

pub returns-clause-taken : goal.returns-clause-taken
returns-clause-taken c = required_one

pub returns-clause-later : goal.returns-clause-later
returns-clause-later c = required_later

pub returns-clause-passed : goal.returns-clause-passed
returns-clause-passed c = passes_required
