use Rattle.std.proofs.Common.{List, ap, sym, subst, ◌∙◌}
use Rattle.std.specs.List.{AllByRecursion}
use Rattle.key_items.specs.declared.item.KeptItem.{KeptItem}
use Rattle.key_items.specs.Spelling.{IsItem}
use Rattle.paxos_forms.specs.Gives.{Give}
use Rattle.paxos_forms.proofs.Listed.{kept_fit}
use Rattle.paxos_forms.proofs.gives.put_state.Goals as goal

pub put_list-requires-2-clause-can : goal.put_list-requires-2-clause-can
put_list-requires-2-clause-can c =
    let P : List KeptItem → Type 0 = λ xs. AllByRecursion (λ k. IsItem k.item) xs in
    subst P (sym (c.as_slice-2.ensures ∙ ap (λ (g : Give). g.items) c.give.view_is)) (kept_fit c.args.give.now.place c.args.give.now.items c.requires.items)
