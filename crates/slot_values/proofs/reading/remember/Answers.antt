-- One that is added never was a member.
use Rattle.std.proofs.Common.{◌≡◌, true, [], sym, ap, ◌∙◌}
use Rattle.slot_values.specs.Log.{Reading, has_effect}
use Rattle.slot_values.proofs.Effects.{never_was}
use Rattle.slot_values.proofs.reading.remember.Goals as goal

pub add_inc-requires : goal.add_inc-requires
add_inc-requires c =
    let before : Reading = record { place = 0; members = c.args.members.now; ever = c.args.ever.now.items; former = [] } in
    let effect : has_effect before c.args.value.now.what ≡ true = rw (← c.deref.ensures.value) (sym (c.takes_effect.ensures 0 []) ∙ c.if-not-takes_effect.false) in
    never_was before c.in-Add.joiner (sym (ap (has_effect before) c.in-Add.is) ∙ effect)
