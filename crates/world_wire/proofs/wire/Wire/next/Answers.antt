use Rattle.std.proofs.Common.{◌≡◌, ◌<◌, ◌+◌, suc, Some, length, ap, sym, ◌∙◌, arith}
use Rattle.std.specs.Prelude.{option_map}
use Rattle.group_rules.specs.Script.{next_letter}
use Rattle.world_wire.proofs.Least.{next_is, next_within}
use Rattle.world_wire.proofs.wire.Wire.next.Goals as goal

pub overflow_add-result : goal.overflow_add-result
overflow_add-result c =
    let within : c.in-Some.index < length c.deref.result.now = next_within c.args.among.now c.args.running.now c.deref.result.now c.self.inside.lanes c.in-Some.index (sym c.in-Some.ensures) in
    omega (arith, within, c.deref.ensures.len, c.self.inside.letters.ok.0, c.self.inside.letters.ok)

pub returns-in-Some : goal.returns-in-Some
returns-in-Some c = λ w h.
    let e : c.in-Some.index + 1 ≡ suc c.in-Some.index = omega arith in
    ap (λ n. Some n) e ∙ (ap (option_map suc) c.in-Some.ensures
    ∙ (next_is w c.args.among.now c.args.running.now c.deref.result.now c.self.inside.lanes h (rw c.deref.ensures.value c.self.invariant.1)
    ∙ ap (next_letter w c.args.among.now 1) (c.deref.ensures.value ∙ c.self.view_is)))

pub returns-in-None : goal.returns-in-None
returns-in-None c = λ w h.
    ap (option_map suc) c.in-None.ensures
    ∙ (next_is w c.args.among.now c.args.running.now c.deref.result.now c.self.inside.lanes h (rw c.deref.ensures.value c.self.invariant.1)
    ∙ ap (next_letter w c.args.among.now 1) (c.deref.ensures.value ∙ c.self.view_is))
