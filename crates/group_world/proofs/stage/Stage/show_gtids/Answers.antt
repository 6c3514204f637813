-- What is seen is said.
use Rattle.std.proofs.Common.{option_copied, ap, subst}
use Rattle.group_rules.specs.Looks.{show_gtids}
use Rattle.group_rules.specs.World.{running_of}
use Rattle.group_world.specs.Sites.{HasMember, at_number}
use Rattle.group_world.proofs.Shown.{seen}
use Rattle.group_world.proofs.stage.Stage.show_gtids.Goals as goal

pub returns-in_ok-look-in-Some : goal.returns-in_ok-look-in-Some
returns-in_ok-look-in-Some c =
    seen show_gtids c.args.server c.args.self.now c.tell.new.self c.in-Some.member.now c.in_ok-look-in-Some.look c.tell.result
    (λ ss a. subst (HasMember (running_of (at_number c.args.server ss))) (ap option_copied c.in-Some.is) (c.member.ensures ss a)) c.in_ok-look-in-Some.ensures c.tell.ensures
