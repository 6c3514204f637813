-- The commits noted, and then these.
use Rattle.std.proofs.Common.{subst, sym}
use Rattle.kept_server.specs.Redoing.{LeadTo}
use Rattle.kept_server.proofs.Leading.{lead_on}
use Rattle.member_core.proofs.ledger.Ledger.note.Goals as goal

pub returns-clause-ok : goal.returns-clause-ok
returns-clause-ok c = λ y z w h l. record {
  before = h.before;
  since = subst (λ gs. LeadTo y gs w) (sym c.in_ok-append.ensures.items) (lead_on y z w c.args.self.now.since.items c.args.committed.items h.since l);
}
