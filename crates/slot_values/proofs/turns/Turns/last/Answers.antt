use Rattle.std.proofs.Common.{◌≡◌, Some, None, sym, ◌∙◌}
use Rattle.std.specs.Prelude.{unwrap_or}
use Rattle.slot_values.specs.Log.{last_of, last_in}
use Rattle.slot_values.proofs.Lasts.{found, last_of_found, last_of_missing, last_in_found}
use Rattle.slot_values.proofs.turns.Turns.last.Goals as goal

pub returns-in-Some : goal.returns-in-Some
returns-in-Some c =
    let e : found c.self.inside.members.items c.args.inc ≡ Some c.in-Some.last = rw (← c.deref.ensures.value) (sym c.last_among.ensures ∙ c.in-Some.is) in
    rw (← c.self.view_is) (last_of_found c.self.inside.members.items c.self.inside.former.items c.args.inc c.in-Some.last e)

pub returns-in-None : goal.returns-in-None
returns-in-None c =
    let e : found c.self.inside.members.items c.args.inc ≡ None = rw (← c.deref.ensures.value) (sym c.last_among.ensures ∙ c.in-None.is) in
    let f : unwrap_or c.last_among-in-None.result 0 ≡ last_in c.self.inside.former.items c.args.inc = rw (c.last_among-in-None.ensures, c.deref-in-None.ensures.value) (last_in_found c.self.inside.former.items c.args.inc) in
    rw (← c.self.view_is) (c.unwrap_or.ensures ∙ f ∙ last_of_missing c.self.inside.members.items c.self.inside.former.items c.args.inc e)
