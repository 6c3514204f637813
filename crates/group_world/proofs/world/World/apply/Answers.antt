-- A step is refused, closes the world, or is done.
use Rattle.std.proofs.Common.{◌≡◌, ◌+◌, true, false, refl, sym, ap, subst, ◌∙◌}
use Rattle.group_rules.specs.Script.{apply}
use Rattle.group_world.specs.Standing.{IsFault, cleared, is_refusal}
use Rattle.group_world.proofs.Applied.{as_no_refusal, closed_fault, done_said, done_world, refused_closes, refused_fault, refused_world}
use Rattle.group_world.proofs.world.World.apply.Goals as goal

pub returns-in-Some-refusal-clause-fault : goal.returns-in-Some-refusal-clause-fault
returns-in-Some-refusal-clause-fault c y w = refused_fault c.args.step y c.args.self.now c.in-Some-refusal.fault w (sym c.in-Some-refusal.is ∙ c.refusal.ensures.why (cleared y) w.along)

pub returns-in-Some-refusal-clause-refused : goal.returns-in-Some-refusal-clause-refused
returns-in-Some-refusal-clause-refused c e y w =
    refused_world c.args.step y c.args.self.now (record c.args.self.now { steps = c.args.self.now.steps + 1 }) c.in-Some-refusal.fault w (sym c.in-Some-refusal.is ∙ c.refusal.ensures.why (cleared y) w.along) refl refl

pub returns-in-Err-clause-fault : goal.returns-in-Err-clause-fault
returns-in-Err-clause-fault c y w =
    subst (λ f. IsFault f (apply c.args.step y)) (sym c.world_fault-in-Err.ensures)
    (closed_fault c.args.step y c.args.self.now c.in-Err.fault w (sym c.in_default-refusal.is ∙ c.refusal.ensures.why (cleared y) w.along) (c.in-Err.ensures.full (cleared y) w.along))

pub returns-in-Err-clause-refused : goal.returns-in-Err-clause-refused
returns-in-Err-clause-refused c e y w = absurd (let k : true ≡ false = sym e ∙ (ap is_refusal c.world_fault-in-Err.ensures ∙ (as_no_refusal c.in-Err.fault).0) in cc)

pub returns-clause-said : goal.returns-clause-said
returns-clause-said c y w =
    done_said c.args.step y c.args.self.now c.does.new.self c.from_vec.result w (sym c.in_default-refusal.is ∙ c.refusal.ensures.why (cleared y) w.along) (c.in_default-does.ensures.stands (cleared y) w.along)
    (c.from_vec.ensures ∙ c.take_said.ensures.taken)

pub returns-clause-stands : goal.returns-clause-stands
returns-clause-stands c y w =
    done_world c.args.step y c.args.self.now (record { stage = c.take_said.new.self; steps = c.args.self.now.steps + 1; fault = c.args.self.now.fault }) c.does.new.self w
    (sym c.in_default-refusal.is ∙ c.refusal.ensures.why (cleared y) w.along) (c.in_default-does.ensures.stands (cleared y) w.along) w.unfailed c.take_said.ensures.beside c.take_said.ensures.none

pub returns-in-Some-refusal-clause-spent : goal.returns-in-Some-refusal-clause-spent
returns-in-Some-refusal-clause-spent c e =
    let k = c.refusal.ensures.kind in absurd (let f : true ≡ false = sym e ∙ (refused_closes k.0 c.in-Some-refusal.fault (sym c.in-Some-refusal.is ∙ k.1)).1 in cc)

pub returns-in-Some-refusal-clause-closes : goal.returns-in-Some-refusal-clause-closes
returns-in-Some-refusal-clause-closes c e =
    let k = c.refusal.ensures.kind in absurd (let f : true ≡ false = sym e ∙ (refused_closes k.0 c.in-Some-refusal.fault (sym c.in-Some-refusal.is ∙ k.1)).0 in cc)
