use Rattle.std.proofs.Common.{◌≡◌, ◌≤◌, suc, length, ap, ◌∙◌, arith}
use Rattle.group_rules.specs.Script.{letter_at}
use Rattle.world_wire.proofs.Numbered.{letter_zero, letter_get}
use Rattle.std.proofs.lemmas.Option.{slice_get_past}
use Rattle.world_wire.proofs.wire.Wire.index_of.Goals as goal

pub returns-in_err-at-clause-none : goal.returns-in_err-at-clause-none
returns-in_err-at-clause-none c =
    let none : c.args.k ≡ 0 = omega (arith, c.in_err-at.ensures) in
    rw c.from_residual.ensures (ap (letter_at c.args.self.now) none ∙ letter_zero c.args.self.now)

pub returns-else-at-len-clause-none : goal.returns-else-at-len-clause-none
returns-else-at-len-clause-none c =
    let next : c.args.k ≡ suc c.in_ok-at.at = omega (arith, c.in_ok-at.ensures) in
    let behind : length c.args.self.now ≤ c.in_ok-at.at = omega (arith, c.if-at-len.false, c.len.ensures, c.self.inside.letters.ok.0, ap length c.self.view_is) in
    ap (letter_at c.args.self.now) next ∙ (letter_get c.args.self.now c.in_ok-at.at ∙ slice_get_past c.args.self.now c.in_ok-at.at behind)
