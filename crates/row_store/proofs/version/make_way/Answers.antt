-- What goes isn't seen.
use Rattle.std.proofs.Common.{ap, sym, ◌∙◌}
use Rattle.row_store.specs.Inside.{is_newest}
use Rattle.row_store.proofs.Versions.{seen_without}
use Rattle.row_store.proofs.version.make_way.Goals as goal

pub returns-then-is_of-clause-seen : goal.returns-then-is_of-clause-seen
returns-then-is_of-clause-seen c e h =
    seen_without e c.args.gtid c.args.versions.now.items c.pop.new.self.items c.pop.result c.pop.ensures.items
    (ap (is_newest c.args.gtid) (sym c.deref.ensures.value) ∙ (sym c.is_of.ensures ∙ c.if-is_of.true)) h
