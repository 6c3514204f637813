use Rattle.std.proofs.Common.{◌≡◌, refl, arith}
use Rattle.byte_forms.specs.Fields.{number_in}
use Rattle.byte_forms.proofs.ChainLemmas.{reached, reached_on, reached_end, takes_equal}
use Rattle.key_items.specs.declared.change.ChangeKind.TheVariants.{Delete}
use Rattle.txn_forms.specs.Changes.{next_kind}
use Rattle.txn_forms.proofs.changes.take_kind.Goals as goal

pub returns-in_default-clause-ok : goal.returns-in_default-clause-ok
unfolding next_kind
returns-in_default-clause-ok c =
    let last : c.in_ok-take_u8_in.field-0 ≡ 3 = omega (arith, c.in_ok-take_u8_in.ensures.range.0, c.in_ok-take_u8_in.ensures.range.1) in
    let kind = takes_equal (number_in 1 1 3) c.args.from.now c.in_ok-take_u8_in.field-0 3 c.take_u8_in.new.self last c.in_ok-take_u8_in.ensures.ok in
    reached_end Delete (reached_on _ 3 (reached next_kind c.args.from.now c.args.from.now refl) kind)
