use Rattle.std.proofs.Common.{◌≡◌, ◌<◌, true, false, Some, length, refl, sym, ap, ◌∙◌, arith}
use Rattle.std.specs.Prelude.{slice_set}
use Rattle.std.specs.List.{slice_get}
use Rattle.std.proofs.lemmas.Option.{slice_get_read}
use Rattle.group_rules.specs.Script.{Letter, set_letter}
use Rattle.world_wire.specs.Nexts.{is_open}
use Rattle.world_wire.proofs.Numbered.{lost_closed, set_none, set_there, total_set, closed_keeps}
use Rattle.world_wire.proofs.wire.Wire.mark_lost.Goals as goal

abbrev marked : Letter → Letter
marked x = record x { lost = true }

pub returns-in_default : goal.returns-in_default
returns-in_default c = set_none c.args.self.now c.args.k marked c.in_default.ensures.none

here : (c : goal.After-drop_closed) → slice_get c.self.inside.letters.items c.in-Some.at ≡ Some c.index_mut.result.now
here c =
    let within : c.in-Some.at < length c.self.inside.letters.items = omega (arith, c.in-Some.ensures.some.1, ap length c.self.view_is) in
    slice_get_read c.self.inside.letters.items (length c.self.inside.letters.items) c.in-Some.at c.index_mut.result.now refl within c.index_mut.ensures.value

pub invariant_of-self : goal.invariant_of-self
invariant_of-self c =
    let closed : is_open c.lose.new.self ≡ false = ap is_open c.lose.ensures ∙ lost_closed c.index_mut.result.now in (
      c.self.invariant.0 ∙ sym (total_set c.self.inside.letters.items c.in-Some.at c.index_mut.result.now c.lose.new.self (here c) (ap (λ (x : Letter). x.size) c.lose.ensures)),
      rw (← c.deref.ensures.value) (c.drop_closed.ensures (rw c.deref.ensures.value (closed_keeps c.self.inside.lanes c.self.inside.letters.items c.in-Some.at c.lose.new.self closed c.self.invariant.1))),
    )

pub returns : goal.returns
returns c =
    ap (slice_set c.self.inside.letters.items c.in-Some.at) c.lose.ensures
    ∙ (set_there c.self.inside.letters.items c.in-Some.at marked c.index_mut.result.now (here c)
    ∙ (ap (λ k. set_letter c.self.inside.letters.items k marked) (sym c.in-Some.ensures.some.0)
    ∙ ap (λ l. set_letter l c.args.k marked) c.self.view_is))
