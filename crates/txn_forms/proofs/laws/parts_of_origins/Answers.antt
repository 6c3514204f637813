use Rattle.std.proofs.Common.{None}
use Rattle.txn_forms.proofs.OpenPlaces.{parts_of-with_parts}
use Rattle.txn_forms.proofs.laws.parts_of_origins.Goals as goal

pub returns : goal.returns
returns k ps o q w chain of_o = parts_of-with_parts ps None o q w chain of_o
