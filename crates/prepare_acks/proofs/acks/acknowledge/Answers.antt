-- The list at the GTID loses the member, and goes where nobody is left.
use Rattle.std.proofs.Common.{Some, None, ap, sym, refl, ◌∙◌}
use Rattle.prepare_acks.specs.Awaited.{without, is_none}
use Rattle.prepare_acks.specs.Inside.{members_in}
use Rattle.prepare_acks.proofs.MapReads.{acknowledged, absent, taken_out, nobody_is}
use Rattle.prepare_acks.proofs.acks.acknowledge.Goals as goal

pub returns-in_default : goal.returns-in_default
returns-in_default c g = rw c.get_mut.follows.holds-at-none (absent c.args.waiting.now.entries c.args.gtid c.args.inc (sym c.in_default.ensures.value) g)

pub returns-then-is_nobody : goal.returns-then-is_nobody
returns-then-is_nobody c g =
    let was = sym c.in-Some.ensures.value in
    let written = (c.get_mut.follows.holds c.drop_member.new.members).3 (rw was refl) in
    let nobody = nobody_is c.drop_member.new.members.items (sym c.if-is_nobody.true ∙ (c.is_nobody.ensures ∙ ap is_none c.deref.ensures.value)) in
    let gone = taken_out c.args.waiting.now.entries (c.get_mut.follows.lender c.drop_member.new.members).entries c.remove.new.self.entries c.args.gtid c.drop_member.new.members written.0 c.remove.ensures.updates.0 in
    acknowledged c.args.waiting.now.entries c.remove.new.self.entries c.args.gtid c.args.inc None gone
    (nobody ∙ (c.drop_member.ensures ∙ ap (λ o. without c.args.inc (members_in o)) c.in-Some.ensures.value)) g

pub returns-else-is_nobody : goal.returns-else-is_nobody
returns-else-is_nobody c g =
    let was = sym c.in-Some.ensures.value in
    let written = (c.get_mut.follows.holds c.drop_member.new.members).3 (rw was refl) in
    acknowledged c.args.waiting.now.entries (c.get_mut.follows.lender c.drop_member.new.members).entries c.args.gtid c.args.inc (Some c.drop_member.new.members) written.0
    (c.drop_member.ensures ∙ ap (λ o. without c.args.inc (members_in o)) c.in-Some.ensures.value) g
