use Rattle.std.proofs.Common.{[], ap, sym, ◌∙◌, false}
use Rattle.key_items.specs.Floors.{passes}
use Rattle.key_items.proofs.Above.{passes_strict}
use Rattle.key_items.proofs.spelling.has_key_above.Goals as goal

pub returns : goal.returns
returns c = c.can_pass.ensures ∙ ap (λ key. passes key false 255 []) c.as_slice.ensures ∙ passes_strict c.args.item.now.key 255 []
