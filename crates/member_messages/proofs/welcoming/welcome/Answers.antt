-- Each member has a seat.
use Rattle.std.proofs.Common.{◌≡◌, ap, ◌∙◌}
use Rattle.slot_values.specs.declared.turns_at.TurnsAt.{TurnsAt}
use Rattle.member_messages.proofs.Seats.{all_seated}
use Rattle.member_messages.proofs.welcoming.welcome.Goals as goal

pub members_shown-requires : goal.members_shown-requires
members_shown-requires c =
    let ms : c.as_slice.result.now ≡ c.args.turns.now.turns.reading.members = c.as_slice.ensures ∙ ap (λ (x : TurnsAt). x.last) c.in_ok-slot.ensures in
    rw (c.seats.ensures, ms) (all_seated c.args.view.now.seats c.args.turns.now.turns.reading.members c.requires)
