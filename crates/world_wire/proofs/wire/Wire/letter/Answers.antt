use Rattle.std.proofs.Common.{◌≡◌, ◌<◌, Some, length, refl, sym, ap, ◌∙◌, arith}
use Rattle.std.specs.List.{slice_get}
use Rattle.std.proofs.lemmas.Option.{slice_get_read}
use Rattle.group_rules.specs.Script.{letter_at}
use Rattle.world_wire.proofs.Numbered.{letter_get}
use Rattle.world_wire.proofs.wire.Wire.letter.Goals as goal

pub returns : goal.returns
returns c =
    let within : c.in_ok-at.at < length c.self.inside.letters.items = omega (arith, c.in_ok-at.ensures.some.1, ap length c.self.view_is) in
    let here : slice_get c.self.inside.letters.items c.in_ok-at.at ≡ Some c.index.result.now = slice_get_read c.self.inside.letters.items (length c.self.inside.letters.items) c.in_ok-at.at c.index.result.now refl within c.index.ensures in
    sym here
    ∙ (sym (letter_get c.self.inside.letters.items c.in_ok-at.at)
    ∙ (ap (letter_at c.self.inside.letters.items) (sym c.in_ok-at.ensures.some.0)
    ∙ ap (λ l. letter_at l c.args.k) c.self.view_is))
