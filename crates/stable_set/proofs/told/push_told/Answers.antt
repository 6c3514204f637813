-- The set is put behind the others, where there is one.
use Rattle.std.proofs.Common.{[], ◌∷◌, ◌++◌, map, ap, sym, ◌∙◌}
use Rattle.std.proofs.lemmas.List.{append-nil}
use Rattle.stable_set.specs.Entries.{told_in}
use Rattle.stable_set.proofs.ToldMaps.{reads, set_told, none_told}
use Rattle.stable_set.proofs.told.push_told.Goals as goal

pub returns-in_ok-push : goal.returns-in_ok-push
returns-in_ok-push c =
    let s = set_told (map told_in c.args.told.now.entries) c.args.inc c.in-Some.set.now (reads c.args.told.now.entries c.args.inc ∙ sym c.in-Some.ensures.value) in
    rw s (c.in_ok-push.ensures.items ∙ ap (λ t. c.args.to.now.items ++ told_in (c.args.inc, t) ∷ []) c.in_ok-try_copy.ensures)

pub returns-in_default : goal.returns-in_default
returns-in_default c =
    let s = none_told (map told_in c.args.told.now.entries) c.args.inc (reads c.args.told.now.entries c.args.inc ∙ sym c.in_default.ensures.value) in
    rw s (sym (append-nil c.args.to.now.items))
