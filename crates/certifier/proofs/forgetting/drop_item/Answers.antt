-- The item goes where the writer is its last one.
use Rattle.std.proofs.Common.{sym, ◌∙◌}
use Rattle.certifier.proofs.Forgotten.{item_dropped, item_stays}
use Rattle.certifier.proofs.forgetting.drop_item.Goals as goal

pub returns-then-is_last_writer-clause-dropped : goal.returns-then-is_last_writer-clause-dropped
returns-then-is_last_writer-clause-dropped c = item_dropped c.args.writers.now.entries c.remove.new.self.entries c.args.item.now c.args.gtid (sym c.is_last_writer.ensures ∙ c.if-is_last_writer.true) c.remove.ensures.updates.0

pub returns-else-is_last_writer-clause-dropped : goal.returns-else-is_last_writer-clause-dropped
returns-else-is_last_writer-clause-dropped c = item_stays c.args.writers.now.entries c.args.item.now c.args.gtid (sym c.is_last_writer.ensures ∙ c.if-is_last_writer.false)
