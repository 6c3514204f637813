-- The item is noted for its new writer, and each other one for its own.
use Rattle.certifier.proofs.Noted.{indexed_more, indexed_put}
use Rattle.certifier.proofs.kept.KeptItems.put.Goals as goal

pub invariant_of-self-2 : goal.invariant_of-self-2
invariant_of-self-2 c =
    indexed_put c.self.inside.writers.entries c.insert.new.self.entries c.note.new.written.entries c.args.item c.args.writer
    (indexed_more c.self.inside.writers.entries c.self.inside.written.entries c.note.new.written.entries c.self.invariant c.note.ensures.keeps)
    c.in_ok-insert.ensures.ordered c.in_ok-note.ensures.ok c.in_ok-insert.ensures.updates.0
