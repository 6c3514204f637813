-- A body and its bytes.
use Rattle.std.proofs.Common.{arith, ◌≤◌, Some, length, sym, subst}
use Rattle.std.proofs.lemmas.Result.{on_ok_weaker}
use Rattle.member_moment.specs.Doing.{Does}
use Rattle.slot_values.specs.declared.value.What.TheVariants.{Body as Says}
use Rattle.member_parts.specs.Committing.{HasNumber}
use Rattle.group_rules.specs.Member.{own}
use Rattle.member_moment.proofs.Spelt.{has_number, some_bytes}
use Rattle.member_moment.proofs.moment.Moment.own_body.Goals as goal

pub own-requires : goal.own-requires
own-requires c = (subst (λ bs. 1 ≤ length bs) (sym c.in_ok-bytes.ensures.ok) (some_bytes c.args.body.now), omega (arith, c.if-len-gt-MOST_BYTES.false, c.len.ensures))

pub returns : goal.returns
returns c = on_ok_weaker c.own.result (λ d. subst (λ bs. Does (own (Says bs) (Some c.args.body.now)) c.args.self.now c.own.new.self) c.in_ok-bytes.ensures.ok
    (d (Some c.args.body.now) (c.requires, c.in_ok-bytes.ensures.held) (record { acknowledges = c.prepared.ensures; number = subst HasNumber (sym c.prepared.ensures) (has_number c.args.body.now c.requires); comes = c.arrives.ensures }))) c.own.ensures.does
