-- Those so far are messages that their form spells.
use Rattle.std.specs.List.{All}
use Rattle.paxos_forms.specs.Messages.{IsMessage}
use Rattle.joining_tried.proofs.of_member_messages.all_alive.Given as goal

abbrev pub invariant-loop-row : goal.invariant-loop-row
invariant-loop-row l = All IsMessage l.messages.items
