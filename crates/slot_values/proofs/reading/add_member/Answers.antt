-- The member goes to its place.
use Rattle.std.proofs.Common.{◌≡◌, not, arith, sym, ◌∙◌, ap}
use Rattle.std.specs.List.{prefix_len}
use Rattle.std.proofs.lemmas.List.Sums.{prefix_len-le-length}
use Rattle.gr_ids.specs.Names.{inc_lt}
use Rattle.slot_values.specs.Log.{Member}
use Rattle.slot_values.proofs.Places.{member_inserts}
use Rattle.slot_values.proofs.reading.add_member.Goals as goal

pub insert-requires : goal.insert-requires
insert-requires c =
    let at : c.member_place-at.result ≡ prefix_len (λ m. not (inc_lt c.args.inc m.inc)) c.args.members.now.items = c.member_place-at.ensures ∙ ap (λ l. prefix_len (λ (m : Member). not (inc_lt c.args.inc m.inc)) l) c.deref.ensures.value in
    omega (arith, prefix_len-le-length (λ (m : Member). not (inc_lt c.args.inc m.inc)) c.args.members.now.items, c.args.members.now.ok.0)

pub returns-clause-ok : goal.returns-clause-ok
returns-clause-ok c =
    let at : c.member_place-at.result ≡ prefix_len (λ m. not (inc_lt c.args.inc m.inc)) c.args.members.now.items = c.member_place-at.ensures ∙ ap (λ l. prefix_len (λ (m : Member). not (inc_lt c.args.inc m.inc)) l) c.deref.ensures.value in
    c.in_ok-insert.ensures.items ∙ sym (member_inserts c.args.members.now.items c.args.inc c.member_place-at.result at)
