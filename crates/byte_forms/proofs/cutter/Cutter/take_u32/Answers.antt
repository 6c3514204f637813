use Rattle.std.proofs.Common.{◌++◌, sym, ap, ◌∙◌}
use Rattle.byte_forms.proofs.FormLemmas.{word_form}
use Rattle.byte_forms.proofs.cutter.Cutter.take_u32.Goals as goal

pub returns-clause-ok : goal.returns-clause-ok
returns-clause-ok c = ((word_form 4).spells _ _ _ c.in_ok-front.ensures.ok.value).1 ∙ ap (λ bytes. bytes ++ c.take_slice.new.self.left) (sym c.u32_of.ensures)
