-- Those so far.
use Rattle.std.proofs.Common.{◌≡◌, map, take}
use Rattle.member_looks.specs.Showing.{member_shown}
use Rattle.member_looks.proofs.showing.members_shown.Given as goal

abbrev pub invariant-loop-seat : goal.invariant-loop-seat
invariant-loop-seat l = l.members.items ≡ map (member_shown l.watch l.me.0 l.me.1 l.primary) (take l.seat-index l.seats)
