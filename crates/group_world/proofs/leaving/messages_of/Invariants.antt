-- Those so far stand there.
use Rattle.std.proofs.Common.{◌≡◌}
use Rattle.group_world.specs.Events.{messages_in}
use Rattle.group_world.proofs.leaving.messages_of.Given as goal

abbrev pub invariant-loop-outgoing : goal.invariant-loop-outgoing
invariant-loop-outgoing l = l.messages.items ≡ messages_in l.yielded
