-- None can be written, or one is.
use Rattle.std.proofs.Common.{◌≡◌, true, Some, option_copied, refl, sym, ap, subst, ◌∙◌}
use Rattle.std.specs.List.{find}
use Rattle.group_rules.specs.World.{WritesRow}
use Rattle.world_servers.specs.Naming.{has_number}
use Rattle.group_world.specs.Changing.{is_busy}
use Rattle.group_world.specs.Sites.{at_number}
use Rattle.group_world.specs.Writing.{HaveWritten, WritesAt}
use Rattle.group_world.proofs.Idle.{idle}
use Rattle.group_world.proofs.Listed.{number_of, tells, unlisted}
use Rattle.group_world.proofs.Written.{busy, no_setup, set, unset, wrote}
use Rattle.group_world.proofs.stage.Stage.write_offline.Goals as goal

pub returns-then-is_none : goal.returns-then-is_none
returns-then-is_none c y a =
    let none = a.holds.setup ∙ unset c.args.self.now.founding c.is_none.result c.is_none.ensures c.if-is_none.true in
    idle c.plays_are_runs.ensures.idle (WritesRow c.args.server c.args.item c.args.value) y c.args.self.now c.args.self.now a tt (no_setup c.args.server c.args.item c.args.value y.world none) a.holds.sites refl refl refl refl refl

pub returns-in_default : goal.returns-in_default
returns-in_default c y a =
    let none = unlisted y.world c.args.self.now.servers c.args.server a.holds.servers (sym c.get.ensures ∙ ap option_copied c.in_default.is) in
    idle c.plays_are_runs.ensures.idle (WritesRow c.args.server c.args.item c.args.value) y c.args.self.now c.args.self.now a tt (busy c.args.server c.args.item c.args.value y.world (ap is_busy none)) a.holds.sites refl refl refl refl refl

pub returns-in-None : goal.returns-in-None
returns-in-None c y a =
    let d = c.in-Some.declared.now in
    let e : find (has_number c.args.server) c.args.self.now.servers ≡ Some d = sym c.get.ensures ∙ ap option_copied c.in-Some.is in
    let told = tells y.world c.args.self.now.servers c.args.server d a.holds.servers e in
    let left = subst (λ o. HaveWritten d.number c.args.item c.args.value y.world.servers o c.write.new.self) c.in-None.is (c.in_ok-write.ensures y.world.servers a.holds.rising a.holds.sites told) in
    let here = subst (λ k. is_busy (at_number k y.world.servers) ≡ true) (number_of c.args.server c.args.self.now.servers d e) left.0 in
    idle c.plays_are_runs.ensures.idle (WritesRow c.args.server c.args.item c.args.value) y c.args.self.now (record c.args.self.now { sites = c.write.new.self }) a tt (busy c.args.server c.args.item c.args.value y.world here) left.1
    refl refl refl refl refl

pub returns-in_ok-push-in-Some-2 : goal.returns-in_ok-push-in-Some-2
returns-in_ok-push-in-Some-2 c y a =
    let d = c.in-Some.declared.now in
    let e : find (has_number c.args.server) c.args.self.now.servers ≡ Some d = sym c.get.ensures ∙ ap option_copied c.in-Some.is in
    let told = tells y.world c.args.self.now.servers c.args.server d a.holds.servers e in
    let left = subst (λ o. HaveWritten d.number c.args.item c.args.value y.world.servers o c.write.new.self) c.in-Some-2.is (c.in_ok-write.ensures y.world.servers a.holds.rising a.holds.sites told) in
    let here = subst (λ k. WritesAt k c.args.item c.args.value y.world.servers c.in-Some-2.gtid c.write.new.self) (number_of c.args.server c.args.self.now.servers d e) left in
    let t = set c.args.self.now.founding c.is_none.result c.is_none.ensures c.if-is_none.false in
    wrote c.plays_are_runs.ensures.written c.servers_commit_no_own_gtid.ensures c.args.server c.args.item c.args.value t.0 c.in-Some-2.gtid y c.args.self.now
    (record c.args.self.now { sites = c.write.new.self; said = c.push.new.self }) a (a.holds.setup ∙ t.1) here refl refl c.in_ok-push-in-Some-2.ensures.items refl refl
