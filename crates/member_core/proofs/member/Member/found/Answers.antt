use Rattle.std.proofs.Common.{refl}
use Rattle.group_rules.specs.Steps.{found}
use Rattle.group_rules.specs.World.{nothing_stored}
use Rattle.member_ranges.specs.Ranges.{setup_with}
use Rattle.member_core.proofs.Acted.{founded}
use Rattle.member_core.proofs.member.Member.found.Goals as goal

pub returns : goal.returns
returns c =
    let s = setup_with c.args.limits c.args.mode c.args.founders.now in
    let a = found s c.args.me in
    founded s c.args.me _ (c.begin_step.ensures a.life a c.in_ok-moment.ensures) (c.new-2.ensures nothing_stored c.new.ensures) refl
