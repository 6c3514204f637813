-- The same test, through the records of the definitions.
use Rattle.std.proofs.Common.{◌∙◌}
use Rattle.gr_ids.specs.Names.{inc_eq}
use Rattle.paxos_leader.specs.Parts.{promised_of}
use Rattle.paxos_leader.proofs.Promises.{any_of}
use Rattle.paxos_leader.proofs.promise.has_promise.Goals as goal

pub returns : goal.returns
returns c = c.is_one_of_these.ensures ∙ any_of promised_of (λ p. inc_eq p.inc c.args.inc) c.args.promises.now
