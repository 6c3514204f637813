-- What is open is put behind the others.
use Rattle.std.proofs.Common.{[], ◌∷◌, ◌++◌, ap, sym, ◌∙◌}
use Rattle.std.proofs.lemmas.List.{append-nil}
use Rattle.name_forms.specs.OpenParts.{OpenParts}
use Rattle.list_state.proofs.Joined.{none_found, one_found}
use Rattle.list_state.proofs.joining.push_open.Goals as goal

pub returns-in_ok-push : goal.returns-in_ok-push
returns-in_ok-push c =
    let one = one_found c.args.parts.now c.args.origin c.in-Some.held.now c.in-Some.ensures in
    rw one (c.in_ok-push.ensures.items ∙ ap (λ (p : OpenParts). c.args.to.now.items ++ p ∷ []) c.in_ok-copied.ensures)

pub returns-in_default : goal.returns-in_default
returns-in_default c =
    let none = none_found c.args.parts.now c.args.origin c.in_default.ensures in
    rw none (sym (append-nil c.args.to.now.items))
