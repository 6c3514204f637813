use Rattle.std.proofs.Common.{refl}
use Rattle.byte_forms.specs.Fields.{number_in}
use Rattle.byte_forms.proofs.ChainLemmas.{reached, reached_on, reached_end, takes_equal}
use Rattle.txn_forms.specs.Bodies.{next_body}
use Rattle.txn_forms.specs.declared.body.Body.TheVariants.{Sync}
use Rattle.txn_forms.proofs.codec.take_body.Goals as goal

pub returns-in-3-clause-ok : goal.returns-in-3-clause-ok
unfolding next_body
returns-in-3-clause-ok c =
    let kind = takes_equal (number_in 1 1 8) c.args.from.now c.in_ok-take_u8_in.field-0 3 c.take_u8_in.new.self c.in-3.is c.in_ok-take_u8_in.ensures.ok in
    reached_end Sync (reached_on _ 3 (reached next_body c.args.from.now c.args.from.now refl) kind)
