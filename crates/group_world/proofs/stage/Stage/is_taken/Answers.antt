-- One test after another.
use Rattle.std.proofs.Common.{◌≡◌, ◌||◌, Bool, false, sym, ap, ◌∙◌}
use Rattle.group_rules.specs.World.{is_group}
use Rattle.world_servers.specs.Naming.{is_taken_in}
use Rattle.world_servers.proofs.Tabled.{first_true}
use Rattle.group_world.specs.Standing.{setup_in}
use Rattle.group_world.proofs.stage.Stage.is_taken.Goals as goal

second : (a b r : Bool) → false ≡ a → r ≡ b → r ≡ (a || b)
second a b r f e = e ∙ ap (λ x. x || b) f

pub returns-then-is_taken : goal.returns-then-is_taken
returns-then-is_taken c = first_true (is_taken_in c.args.self.now.servers c.args.number c.args.uuid) _ (sym c.if-is_taken.true ∙ c.is_taken.ensures)

pub returns-in-None : goal.returns-in-None
returns-in-None c =
    second (is_taken_in c.args.self.now.servers c.args.number c.args.uuid) (is_group (setup_in c.args.self.now.founding) c.args.uuid) false (sym c.if-is_taken.false ∙ c.is_taken.ensures)
    (sym (ap (λ o. is_group (setup_in o) c.args.uuid) c.in-None.is))

pub returns-in-Some : goal.returns-in-Some
returns-in-Some c =
    second (is_taken_in c.args.self.now.servers c.args.number c.args.uuid) (is_group (setup_in c.args.self.now.founding) c.args.uuid) c.eq.result (sym c.if-is_taken.false ∙ c.is_taken.ensures)
    (c.eq.ensures ∙ sym (ap (λ o. is_group (setup_in o) c.args.uuid) c.in-Some.is))
