-- A part that is open.
use Rattle.std.proofs.Common.{◌≡◌, sym, ◌∙◌}
use Rattle.txn_forms.specs.declared.joined.Joined.TheVariants.{Open}
use Rattle.txn_forms.specs.Parts.{becomes, parts_of}
use Rattle.list_state.proofs.Bodies.{shows_open}
use Rattle.list_state.proofs.holding.hold_part.Goals as goal

pub returns-in-Open-clause-held : goal.returns-in-Open-clause-held
returns-in-Open-clause-held c =
    let o = parts_of c.args.parts.now c.args.origin in
    let joined : c.in_ok-take.field-0 ≡ becomes o c.args.part = c.in_ok-take.ensures.joined in
    let opened : c.in_ok-take.field-0 ≡ Open = c.in-Open.is in
    shows_open o c.args.part (sym opened ∙ joined)
