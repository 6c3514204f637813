use Rattle.std.proofs.Common.{◌≡◌, ◌<◌, Some, None, Option, true, false, length, slice_get, ltb, sym, ap, ◌∙◌}
use Rattle.std.proofs.lemmas.Bool.{lt-ltb, false≢true}
use Rattle.std.proofs.lemmas.Option.{slice_get-get_or}
use Rattle.gr_ids.specs.declared.names.OpenParts.{OpenParts}
use Rattle.txn_forms.specs.Parts.{goes_on}
use Rattle.txn_forms.proofs.OpenPlaces.{parts_there, parts_nowhere, has_within}
use Rattle.txn_forms.proofs.joining.goes_on.Goals as goal

pub returns-then-not-has_parts : goal.returns-then-not-has_parts
returns-then-not-has_parts c = ap (λ (w : Option OpenParts). goes_on w c.args.part.now) (sym (parts_nowhere c.args.parts.now None c.args.origin c.args.at c.requires.ascend c.requires.place (sym c.if-not-has_parts.ensures)))

pub returns-in-Some : goal.returns-in-Some
returns-in-Some c =
    let within : c.args.at < length c.args.parts.now = has_within c.args.parts.now c.args.at c.args.origin (sym c.if-not-has_parts.ensures) in
    let got : slice_get c.args.parts.now c.args.at ≡ Some c.in-Some.held.now = slice_get-get_or c.args.parts.now c.args.at c.in-Some.held.now within ∙ ap (λ (p : OpenParts). Some p) (sym c.in-Some.ensures.lookup.1) in
    let there = parts_there c.args.parts.now c.args.origin c.args.at c.requires.place (sym c.if-not-has_parts.ensures) in
    c.follows.ensures ∙ ap (λ (w : Option OpenParts). goes_on w c.args.part.now) (sym (there ∙ got))

pub returns-in-None : goal.returns-in-None
returns-in-None c =
    let within = has_within c.args.parts.now c.args.at c.args.origin (sym c.if-not-has_parts.ensures) in
    let test : ltb c.args.at (length c.args.parts.now) ≡ true = lt-ltb c.args.at (length c.args.parts.now) within in
    absurd (false≢true (c.in-None.ensures.lookup.0 ∙ test))
