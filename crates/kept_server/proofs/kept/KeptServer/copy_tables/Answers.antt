use Rattle.std.proofs.Common.{[], ◌∷◌, ◌∙◌}
use Rattle.group_rules.specs.Events.{Starts}
use Rattle.kept_server.proofs.Written.{roomed}
use Rattle.kept_server.proofs.kept.KeptServer.copy_tables.Goals as goal

pub returns : goal.returns
returns c = λ y h. record {
  executed = c.in_ok-executed.ensures ∙ h.stored.executed;
  canonical = h.stored.canonical;
  rows = roomed (Starts y ∷ []) c.args.self.now.store c.in_ok-store.store c.in_ok-store.ensures h.stored.rows;
  gtids = h.stored.gtids;
  places = h.stored.places;
  committed = h.stored.committed;
}
