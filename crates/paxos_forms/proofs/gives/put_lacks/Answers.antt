use Rattle.std.proofs.Common.{List, ◌<◌, ◌^◌, length, ap, sym, subst, ◌∙◌}
use Rattle.std.specs.List.{AllByRecursion}
use Rattle.gr_ids.specs.declared.names.OpenParts.{OpenParts}
use Rattle.paxos_forms.specs.Gives.{Give, Given}
use Rattle.paxos_forms.proofs.Listed.{given_fit, parts_fit}
use Rattle.paxos_forms.proofs.gives.put_lacks.Goals as goal

pub put_list-requires-clause-can : goal.put_list-requires-clause-can
put_list-requires-clause-can c =
    let P : List Given → Type 0 = λ xs. AllByRecursion (λ g. length g.body < 2 ^ 32) xs in
    subst P (sym (c.as_slice.ensures ∙ ap (λ (g : Give). g.txns) c.give.view_is)) (given_fit c.args.give.now.place c.args.give.now.txns c.requires.txns)

pub put_list-requires-2-clause-can : goal.put_list-requires-2-clause-can
put_list-requires-2-clause-can c =
    let P : List OpenParts → Type 0 = λ xs. AllByRecursion (λ p. length p.bytes < 2 ^ 32) xs in
    subst P (sym (c.as_slice-2.ensures ∙ ap (λ (g : Give). g.parts) c.give.view_is)) (parts_fit c.args.give.now.parts c.requires.parts)
