-- It is taken, or stands among the others.
use Rattle.std.proofs.Common.{◌≡◌, true, false, refl, sym, ◌∙◌}
use Rattle.group_rules.specs.World.{Declares, is_group, is_taken}
use Rattle.group_world.specs.Standing.{Goes, setup_in}
use Rattle.group_world.proofs.Declared.{declared, declares, fresh, taken_idles, taken_is, untaken_there}
use Rattle.group_world.proofs.Idle.{idle}
use Rattle.group_world.proofs.Results.{no_ok, on_ok}
use Rattle.group_world.proofs.stage.Stage.declare.Goals as goal

pub returns-then-is_taken : goal.returns-then-is_taken
returns-then-is_taken c y a =
    let d = c.args.server in
    let taken : is_taken d.number d.uuid y.world ≡ true = sym (taken_is y c.args.self.now d.number d.uuid a c.servers_are_those_of_the_world.ensures.taken) ∙ (sym c.is_taken.ensures ∙ c.if-is_taken.true) in
    idle c.plays_are_runs.ensures.idle (Declares d.number d.uuid d.version d.weight) y c.args.self.now c.args.self.now a c.uuid_fits.ensures (taken_idles d y.world taken) a.holds.sites refl refl refl refl refl

pub returns : goal.returns
returns c = on_ok c.declare.result c.declare.ensures.ok (λ h y a.
    let d = c.args.server in
    let free : is_taken d.number d.uuid y.world ≡ false = sym (taken_is y c.args.self.now d.number d.uuid a c.servers_are_those_of_the_world.ensures.taken) ∙ (sym c.is_taken.ensures ∙ c.if-is_taken.false) in
    declared c.plays_are_runs.ensures.declared d y c.args.self.now (record c.args.self.now { sites = c.put.new.self; servers = c.declare.new.self }) a c.uuid_fits.ensures free
    (h ∙ c.servers_are_those_of_the_world.ensures.declared y.world c.args.self.now.servers d.number d.uuid d.version d.weight a.holds.servers)
    (c.in_ok-put.ensures y.world.servers (fresh d) a.holds.rising a.holds.sites (record { number = refl; starts = refl; stay = (refl, c.new.ensures) }))
    refl refl refl refl)

pub declare-requires : goal.declare-requires
declare-requires c = untaken_there c.args.self.now.servers c.args.server.number c.args.server.uuid (is_group (setup_in c.args.self.now.founding) c.args.server.uuid) (sym c.is_taken.ensures ∙ c.if-is_taken.false)

pub returns-in_err-put : goal.returns-in_err-put
returns-in_err-put c = no_ok (Goes (declares c.args.server) c.args.self.now (record c.args.self.now { sites = c.put.new.self })) c.from_residual.result c.in_err-put.field-0.0 c.from_residual.ensures.1
