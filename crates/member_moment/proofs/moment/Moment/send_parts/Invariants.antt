-- The parts so far are sent.
use Rattle.member_moment.proofs.Sending.{Parted}
use Rattle.member_moment.proofs.moment.Moment.send_parts.Given as goal

abbrev pub invariant-loop-part : goal.invariant-loop-part
invariant-loop-part l = Parted l.initial.self l.self l.fn.parts.items l.yielded l.part-iterator.rest.items
