-- The seat goes to its place.
use Rattle.std.proofs.Common.{◌≡◌, not, arith, sym, ◌∙◌, ap}
use Rattle.std.proofs.lemmas.List.Sums.{prefix_len-le-length}
use Rattle.gr_ids.specs.Names.{inc_lt}
use Rattle.group_rules.specs.View.{Seat}
use Rattle.view_changes.proofs.SeatPlaces.{before, seat_inserts}
use Rattle.view_changes.proofs.seats.add_seat.Goals as goal

pub insert-requires : goal.insert-requires
insert-requires c =
    let at : c.seat_place-at.result ≡ before c.args.seat c.args.seats.now.items = c.seat_place-at.ensures ∙ ap (λ l. before c.args.seat l) c.deref.ensures.value in
    omega (arith, prefix_len-le-length (λ (x : Seat). not (inc_lt c.args.seat.joiner.inc x.joiner.inc)) c.args.seats.now.items, c.args.seats.now.ok.0)

pub returns-clause-ok : goal.returns-clause-ok
returns-clause-ok c =
    let at : c.seat_place-at.result ≡ before c.args.seat c.args.seats.now.items = c.seat_place-at.ensures ∙ ap (λ l. before c.args.seat l) c.deref.ensures.value in
    c.in_ok-insert.ensures.items ∙ sym (seat_inserts c.args.seats.now.items c.args.seat c.seat_place-at.result at)
