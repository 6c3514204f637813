-- Nothing happens where a group was founded or its UUID is taken; or all founders start.
use Rattle.std.proofs.Common.{◌≡◌, true, false, refl, sym, ap, ◌∙◌}
use Rattle.std.specs.Prelude.{is_some}
use Rattle.group_rules.specs.Script.{founders}
use Rattle.group_rules.specs.World.{Founds, is_group_taken}
use Rattle.member_ranges.specs.Ranges.{setup_with}
use Rattle.group_world.proofs.Founded.{any_setup, founds_with, was_founded, was_taken}
use Rattle.group_world.proofs.Idle.{idle}
use Rattle.group_world.proofs.Results.{no_ok}
use Rattle.group_world.proofs.stage.Stage.found.Goals as goal

pub returns-then-is_some : goal.returns-then-is_some
returns-then-is_some c y a =
    let t = setup_with c.args.limits c.args.mode (founders y.world c.args.servers.now) in
    let founded : is_some y.world.setup ≡ true = ap is_some a.holds.setup ∙ any_setup c.args.self.now.founding (sym c.is_some.ensures ∙ c.if-is_some.true) in
    idle c.plays_are_runs.ensures.idle (Founds t) y c.args.self.now c.args.self.now a tt (was_founded t y.world founded) a.holds.sites refl refl refl refl refl

pub returns-then-is_group_taken : goal.returns-then-is_group_taken
returns-then-is_group_taken c y a =
    let t = setup_with c.args.limits c.args.mode (founders y.world c.args.servers.now) in
    let taken : is_group_taken c.args.limits.group y.world ≡ true = sym (c.servers_are_those_of_the_world.ensures.group y.world c.args.self.now.servers c.args.limits.group a.holds.servers) ∙ (sym c.is_group_taken.ensures ∙ c.if-is_group_taken.true) in
    idle c.plays_are_runs.ensures.idle (Founds t) y c.args.self.now c.args.self.now a tt (was_taken t y.world taken) a.holds.sites refl refl refl refl refl

pub returns-in_err-founders : goal.returns-in_err-founders
returns-in_err-founders c = no_ok _ c.from_residual.result c.in_err-founders.field-0.0 c.from_residual.ensures.1

pub returns-in_err-found_all : goal.returns-in_err-found_all
returns-in_err-found_all c = no_ok _ c.from_residual-in_err-found_all.result c.in_err-found_all.field-0.0 c.from_residual-in_err-found_all.ensures.1

pub returns : goal.returns
returns c y a =
    let free : is_group_taken c.args.limits.group y.world ≡ false = sym (c.servers_are_those_of_the_world.ensures.group y.world c.args.self.now.servers c.args.limits.group a.holds.servers) ∙ (sym c.is_group_taken.ensures ∙ c.if-is_group_taken.false) in
    founds_with c.plays_are_runs.ensures.founded c.args.limits c.args.mode c.in_ok-founders.field-0.items c.args.servers.now (record { limits = c.args.limits; mode = c.args.mode; founders = c.in_ok-founders.field-0 }) y c.args.self.now c.found_all.new.self _ a
    (c.fits.ensures c.if-not-fits.false) (c.in_ok-founders.ensures ∙ c.servers_are_those_of_the_world.ensures.founders y.world c.args.self.now.servers c.args.servers.now a.holds.servers) refl
    (sym c.is_some.ensures ∙ c.if-is_some.false) free c.in_ok-found_all.ensures.founded c.in_ok-found_all.ensures.within refl
