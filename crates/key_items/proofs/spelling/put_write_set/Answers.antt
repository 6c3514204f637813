use Rattle.std.proofs.Common.{List, None, sym, subst}
use Rattle.std.specs.List.{AllByRecursion}
use Rattle.byte_forms.proofs.ListLemmas.{chain_all}
use Rattle.key_items.specs.Items.{Item}
use Rattle.key_items.specs.Spelling.{IsItem, IsItemAfter}
use Rattle.key_items.proofs.ItemLemmas.{each_item}
use Rattle.key_items.proofs.spelling.put_write_set.Goals as goal

pub put_list-requires-clause-can : goal.put_list-requires-clause-can
put_list-requires-clause-can c =
    let P : List Item → Type 0 = λ xs. AllByRecursion IsItem xs in
    subst P (sym c.as_slice.ensures.items) (chain_all IsItemAfter IsItem each_item None c.args.set.now c.requires.items)
