-- The same test, through the records of the definitions.
use Rattle.std.proofs.Common.{◌∙◌}
use Rattle.std.specs.Prelude.{nat_lt}
use Rattle.std.specs.List.{list_any}
use Rattle.paxos_leader.specs.Parts.{promised_of}
use Rattle.paxos_leader.proofs.Promises.{any_of}
use Rattle.paxos_leader.proofs.promise.is_reported_above.Goals as goal

pub returns : goal.returns
returns c = c.is_above_in_these.ensures ∙ any_of promised_of (λ p. list_any (λ x. nat_lt c.args.slot x.slot) p.votes) c.args.promises.now
