-- None can start, or one does.
use Rattle.std.proofs.Common.{◌≡◌, true, Some, option_copied, refl, sym, ap, subst, ◌∙◌}
use Rattle.std.specs.List.{find}
use Rattle.group_rules.specs.Script.{Play}
use Rattle.group_rules.specs.World.{Starts, member_at}
use Rattle.member_ranges.specs.Ranges.{setup_with}
use Rattle.world_servers.specs.Naming.{has_number}
use Rattle.group_world.specs.Changing.{BeginsAt, HaveBegun, is_busy}
use Rattle.group_world.specs.Sites.{at_number}
use Rattle.group_world.specs.Standing.{Along, setup_in}
use Rattle.group_world.proofs.Begun.{busy, closed, goes_on, no_contact, no_setup, nobody, somebody}
use Rattle.group_world.proofs.Idle.{idle}
use Rattle.group_world.proofs.Listed.{number_of, tells, unlisted}
use Rattle.group_world.proofs.Results.{if_err, on_four}
use Rattle.group_world.proofs.stage.Stage.start.Goals as goal

pub returns-in_default-clause-stands : goal.returns-in_default-clause-stands
returns-in_default-clause-stands c y a =
    let none = nobody (member_at y.world c.args.via) (sym (c.running.ensures y.world.servers a.holds.sites) ∙ c.in_default.is) in
    idle c.plays_are_runs.ensures.idle (Starts c.args.server c.args.via) y c.args.self.now c.args.self.now a tt (no_contact c.args.server c.args.via y.world none) a.holds.sites refl refl refl refl refl

pub returns-in_default-founding-clause-stands : goal.returns-in_default-founding-clause-stands
returns-in_default-founding-clause-stands c y a =
    idle c.plays_are_runs.ensures.idle (Starts c.args.server c.args.via) y c.args.self.now c.args.self.now a tt (no_setup c.args.server c.args.via y.world (a.holds.setup ∙ ap setup_in c.in_default-founding.is)) a.holds.sites refl refl refl refl refl

pub returns-in_default-get-clause-stands : goal.returns-in_default-get-clause-stands
returns-in_default-get-clause-stands c y a =
    let none = unlisted y.world c.args.self.now.servers c.args.server a.holds.servers (sym c.get.ensures ∙ ap option_copied c.in_default-get.is) in
    idle c.plays_are_runs.ensures.idle (Starts c.args.server c.args.via) y c.args.self.now c.args.self.now a tt (busy c.args.server c.args.via y.world (ap is_busy none)) a.holds.sites refl refl refl refl refl

pub returns-in-None-clause-stands : goal.returns-in-None-clause-stands
returns-in-None-clause-stands c y a =
    let d = c.in-Some-get.declared.now in
    let f = c.in-Some-founding.founding in
    let e : find (has_number c.args.server) c.args.self.now.servers ≡ Some d = sym c.get.ensures ∙ ap option_copied c.in-Some-get.is in
    let told = tells y.world c.args.self.now.servers c.args.server d a.holds.servers e in
    let left = subst (λ o. HaveBegun d.number (setup_with f.limits f.mode f.founders.items) c.in-Some.contact y.world.servers o c.start.new.self) c.in-None.is (c.in_ok-start.ensures y.world.servers a.holds.rising a.holds.sites told) in
    let here = subst (λ k. is_busy (at_number k y.world.servers) ≡ true) (number_of c.args.server c.args.self.now.servers d e) left.0 in
    idle c.plays_are_runs.ensures.idle (Starts c.args.server c.args.via) y c.args.self.now (record c.args.self.now { sites = c.start.new.self }) a tt (busy c.args.server c.args.via y.world here) left.1
    refl refl refl refl refl

-- what the sites have done
began : (c : goal.After-leave) (y : Play) → Along y c.args.self.now
    → BeginsAt c.args.server (setup_with c.in-Some-founding.founding.limits c.in-Some-founding.founding.mode c.in-Some-founding.founding.founders.items) c.in-Some.contact y.world.servers c.in-Some-2.turn c.start.new.self
began c y a =
    let d = c.in-Some-get.declared.now in
    let f = c.in-Some-founding.founding in
    let e : find (has_number c.args.server) c.args.self.now.servers ≡ Some d = sym c.get.ensures ∙ ap option_copied c.in-Some-get.is in
    let told = tells y.world c.args.self.now.servers c.args.server d a.holds.servers e in
    let left = subst (λ o. HaveBegun d.number (setup_with f.limits f.mode f.founders.items) c.in-Some.contact y.world.servers o c.start.new.self) c.in-Some-2.is (c.in_ok-start.ensures y.world.servers a.holds.rising a.holds.sites told) in
    subst (λ k. BeginsAt k (setup_with f.limits f.mode f.founders.items) c.in-Some.contact y.world.servers c.in-Some-2.turn c.start.new.self) (number_of c.args.server c.args.self.now.servers d e) left

pub returns-in-Some-2-clause-stands : goal.returns-in-Some-2-clause-stands
returns-in-Some-2-clause-stands c =
    on_four c.leave.result c.leave.ensures.wire c.leave.ensures.few c.leave.ensures.said c.leave.ensures.beside (λ wire few said beside y a.
    let f = c.in-Some-founding.founding in
    let who = somebody (member_at y.world c.args.via) c.in-Some.contact (sym (c.running.ensures y.world.servers a.holds.sites) ∙ c.in-Some.is) in
    goes_on c.plays_are_runs.ensures.started c.args.server c.args.via (setup_with f.limits f.mode f.founders.items) who.0 y c.args.self.now c.leave.new.self c.in-Some-2.turn a (a.holds.setup ∙ ap setup_in c.in-Some-founding.is) who.1
    (subst (λ i. BeginsAt c.args.server (setup_with f.limits f.mode f.founders.items) i y.world.servers c.in-Some-2.turn c.leave.new.self.sites) (sym who.2)
    (subst (BeginsAt c.args.server (setup_with f.limits f.mode f.founders.items) c.in-Some.contact y.world.servers c.in-Some-2.turn) (sym beside.sites) (began c y a)))
    beside.servers beside.founding wire few said beside.block)

pub returns-in-Some-2-clause-full : goal.returns-in-Some-2-clause-full
returns-in-Some-2-clause-full c = if_err c.leave.result c.leave.ensures.full (λ w h y a.
    let f = c.in-Some-founding.founding in
    let who = somebody (member_at y.world c.args.via) c.in-Some.contact (sym (c.running.ensures y.world.servers a.holds.sites) ∙ c.in-Some.is) in
    closed c.plays_are_runs.ensures.started c.args.server c.args.via (setup_with f.limits f.mode f.founders.items) who.0 y c.args.self.now (record c.args.self.now { sites = c.start.new.self }) c.in-Some-2.turn a
    (a.holds.setup ∙ ap setup_in c.in-Some-founding.is) who.1
    (subst (λ i. BeginsAt c.args.server (setup_with f.limits f.mode f.founders.items) i y.world.servers c.in-Some-2.turn c.start.new.self) (sym who.2) (began c y a)) refl refl w h)
