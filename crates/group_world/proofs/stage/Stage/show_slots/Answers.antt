-- What is seen is said.
use Rattle.std.proofs.Common.{option_copied, ap, subst}
use Rattle.group_rules.specs.Looks.{show_slots}
use Rattle.group_rules.specs.World.{running_of}
use Rattle.group_world.specs.Sites.{HasMember, at_number}
use Rattle.group_world.proofs.Shown.{seen}
use Rattle.group_world.proofs.stage.Stage.show_slots.Goals as goal

pub returns-in-Some : goal.returns-in-Some
returns-in-Some c =
    seen show_slots c.args.server c.args.self.now c.tell.new.self c.in-Some.member.now c.show_slots-look.result c.tell.result
    (λ ss a. subst (HasMember (running_of (at_number c.args.server ss))) (ap option_copied c.in-Some.is) (c.member.ensures ss a)) c.show_slots-look.ensures c.tell.ensures
