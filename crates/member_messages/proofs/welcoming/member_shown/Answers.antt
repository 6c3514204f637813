-- The member's seat is there, and it is the one that is found.
use Rattle.std.proofs.Common.{ap}
use Rattle.node_rules.specs.declared.seat.Seat.{Seat}
use Rattle.member_messages.proofs.Seats.{is_seat, is_there}
use Rattle.member_messages.proofs.welcoming.member_shown.Goals as goal

pub unreachable-requires : goal.unreachable-requires
unreachable-requires c = is_there c.args.seats.now c.args.member.inc c.requires c.in_default.ensures

pub returns : goal.returns
returns c =
    let seat = is_seat c.args.seats.now c.args.member.inc c.in-Some.seat.now c.requires c.in-Some.ensures in
    ap (λ (s : Seat). record { joiner = record s.joiner { inc = c.args.member.inc }; state = s.state; last = c.args.member.last }) seat
