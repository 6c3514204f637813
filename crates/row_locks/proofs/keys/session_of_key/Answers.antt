-- What the map has at the key.
use Rattle.std.proofs.Common.{◌≡◌, sym, ◌∙◌}
use Rattle.row_locks.proofs.KeyReads.{reads}
use Rattle.row_locks.proofs.keys.session_of_key.Goals as goal

pub returns : goal.returns
returns c = c.copied.ensures ∙ (c.get.ensures.value ∙ sym (reads c.args.keys.now.entries c.args.item.now))
