-- Whole, or in parts.
use Rattle.std.proofs.Common.{ap, ◌∙◌, arith}
use Rattle.group_rules.specs.Parts.{cut}
use Rattle.member_tables.proofs.Results.{on_ok}
use Rattle.member_moment.proofs.Sending.{parts_are_sent, whole_is_sent}
use Rattle.member_moment.proofs.moment.Moment.send_body.Goals as goal

pub returns-then-len-le-WHOLE_BYTES-clause-rest : goal.returns-then-len-le-WHOLE_BYTES-clause-rest
returns-then-len-le-WHOLE_BYTES-clause-rest c = on_ok c.own.result (whole_is_sent c.args.self.now c.own.new.self c.args.body (omega (arith, c.len.ensures, c.if-len-le-WHOLE_BYTES.true))) c.own.ensures.rest

pub returns-clause-rest : goal.returns-clause-rest
returns-clause-rest c = on_ok c.send_parts.result (parts_are_sent c.args.self.now c.send_parts.new.self c.args.body c.in_ok-parts.parts.items (omega (arith, c.len.ensures, c.if-len-le-WHOLE_BYTES.false)) (c.in_ok-parts.ensures.cut ∙ ap cut c.as_slice.ensures)) c.send_parts.ensures.rest
