-- Those so far are shown.
use Rattle.std.proofs.Common.{◌≡◌, map, take}
use Rattle.member_messages.specs.Greeting.{welcomed_as}
use Rattle.member_messages.proofs.welcoming.members_shown.Given as goal

abbrev pub invariant-loop-member : goal.invariant-loop-member
invariant-loop-member l = l.shown.items ≡ map (welcomed_as l.seats) (take l.member-index l.members)
