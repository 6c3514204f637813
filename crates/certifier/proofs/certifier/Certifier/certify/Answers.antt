-- The transaction is the last writer of its items; where memory is refused, all is as it was.
use Rattle.std.proofs.Common.{◌≡◌, ℕ, ◌+◌, ◌*◌, ◌≤◌, true, false, Option, map, refl, sym, ap, subst, ◌∙◌, arith}
use Rattle.std.specs.Prelude.{IfSome}
use Rattle.std.specs.Result.{is_err}
use Rattle.group_rules.specs.Certifier.{blocker, last_of, next_gtid, number_after, opens_block, written_by}
use Rattle.certifier.specs.Certifying.{Certifying, limits_of}
use Rattle.certifier.specs.Inside.{certifying_in, kept_in, last_in}
use Rattle.certifier.proofs.LastMaps.{inserted, reads}
use Rattle.certifier.proofs.Positive.{in_blocks, in_next_block, made_positive, no_blocker, sound_with, undone, wider}
use Rattle.certifier.proofs.Results.{on_err, on_ok}
use Rattle.certifier.proofs.certifier.Certifier.certify.Goals as goal

pub invariant_of-self-then-is_err : goal.invariant_of-self-then-is_err
invariant_of-self-then-is_err c =
    let last = undone c.args.origin c.self.inside.last c.insert.new.self c.put_back.new.map c.next_gtid-gtid.result.number c.in_ok-before.before c.in_ok-before.ensures.old c.in_ok-before.ensures.updates
    c.put_back.ensures.back c.in_ok-before.ensures.was_ordered c.put_back.ensures.ordered in
    rw last c.self.invariant

pub returns-then-is_err-clause-err : goal.returns-then-is_err-clause-err
returns-then-is_err-clause-err c =
    let yes : is_err c.write.result ≡ true = sym c.is_err.ensures.value ∙ c.if-is_err.true in
    let items = on_err c.write.result yes c.write.ensures.err in
    let last = undone c.args.origin c.self.inside.last c.insert.new.self c.put_back.new.map c.next_gtid-gtid.result.number c.in_ok-before.before c.in_ok-before.ensures.old c.in_ok-before.ensures.updates
    c.put_back.ensures.back c.in_ok-before.ensures.was_ordered c.put_back.ensures.ordered in
    rw (← c.self.view_is, last, items) refl

pub invariant_of-self-then-opens_block : goal.invariant_of-self-then-opens_block
invariant_of-self-then-opens_block c =
    let i = c.self.inside in
    let was : IfSome (last_of (map last_in i.last.entries) c.args.origin) (λ n. n ≤ i.blocks * i.block) = subst (λ (o : Option ℕ). IfSome o (λ n. n ≤ i.blocks * i.block)) (sym (reads i.last.entries c.args.origin)) (c.self.invariant.numbers c.args.origin) in
    let number : c.next_gtid-gtid.result.number ≡ number_after i.block i.blocks (last_of (map last_in i.last.entries) c.args.origin) = ap (λ g. g.number) (c.next_gtid-gtid.ensures.gtid ∙ ap (λ (v : Certifying). next_gtid (limits_of v) v.certified c.args.origin) (sym c.self.view_is)) in
    sound_with i.block i.blocks (i.blocks + 1) i.last.entries c.insert.new.self.entries c.args.origin c.next_gtid-gtid.result.number c.self.invariant c.in_ok-before.ensures.updates.0
    (rw number (in_next_block i.block i.blocks (last_of (map last_in i.last.entries) c.args.origin) c.self.invariant.least was)) (wider i.block i.blocks)

pub invariant_of-self-else-opens_block : goal.invariant_of-self-else-opens_block
invariant_of-self-else-opens_block c =
    let i = c.self.inside in
    let was : IfSome (last_of (map last_in i.last.entries) c.args.origin) (λ n. n ≤ i.blocks * i.block) = subst (λ (o : Option ℕ). IfSome o (λ n. n ≤ i.blocks * i.block)) (sym (reads i.last.entries c.args.origin)) (c.self.invariant.numbers c.args.origin) in
    let number : c.next_gtid-gtid.result.number ≡ number_after i.block i.blocks (last_of (map last_in i.last.entries) c.args.origin) = ap (λ g. g.number) (c.next_gtid-gtid.ensures.gtid ∙ ap (λ (v : Certifying). next_gtid (limits_of v) v.certified c.args.origin) (sym c.self.view_is)) in
    let shut : opens_block i.block (number_after i.block i.blocks (last_of (map last_in i.last.entries) c.args.origin)) ≡ false = ap (opens_block i.block) (sym number) ∙ (sym c.opens_block.ensures ∙ c.if-opens_block.false) in
    sound_with i.block i.blocks i.blocks i.last.entries c.insert.new.self.entries c.args.origin c.next_gtid-gtid.result.number c.self.invariant c.in_ok-before.ensures.updates.0
    (rw number (in_blocks i.block i.blocks (last_of (map last_in i.last.entries) c.args.origin) was shut)) (omega arith)

pub returns-then-opens_block-clause-ok : goal.returns-then-opens_block-clause-ok
returns-then-opens_block-clause-ok c =
    let i = c.self.inside in
    let no : is_err c.write.result ≡ false = sym c.is_err.ensures.value ∙ c.if-is_err.false in
    let opens : opens_block i.block c.next_gtid-gtid.result.number ≡ true = sym c.opens_block.ensures ∙ c.if-opens_block.true in
    rw (← c.self.view_is) (made_positive (certifying_in i.group i.block i.blocks i.last.entries i.kept) c.args.place c.args.origin c.args.txn.now c.next_gtid-gtid.result
    (i.blocks + 1) (map last_in c.insert.new.self.entries) (map kept_in c.write.new.self)
    (no_blocker (blocker (map kept_in i.kept) c.args.txn.now) (sym c.in_default.ensures))
    (c.next_gtid-gtid.ensures.gtid ∙ ap (λ (v : Certifying). next_gtid (limits_of v) v.certified c.args.origin) (sym c.self.view_is))
    (rw opens (omega arith))
    (ap (map last_in) c.in_ok-before.ensures.entries ∙ inserted i.last.entries c.args.origin c.next_gtid-gtid.result.number)
    (on_ok c.write.result no c.write.ensures.ok ∙ ap (λ is. written_by c.args.place c.next_gtid-gtid.result is (map kept_in i.kept)) c.as_slice.ensures.items))

pub returns-else-opens_block-clause-ok : goal.returns-else-opens_block-clause-ok
returns-else-opens_block-clause-ok c =
    let i = c.self.inside in
    let no : is_err c.write.result ≡ false = sym c.is_err.ensures.value ∙ c.if-is_err.false in
    let shut : opens_block i.block c.next_gtid-gtid.result.number ≡ false = sym c.opens_block.ensures ∙ c.if-opens_block.false in
    rw (← c.self.view_is) (made_positive (certifying_in i.group i.block i.blocks i.last.entries i.kept) c.args.place c.args.origin c.args.txn.now c.next_gtid-gtid.result
    i.blocks (map last_in c.insert.new.self.entries) (map kept_in c.write.new.self)
    (no_blocker (blocker (map kept_in i.kept) c.args.txn.now) (sym c.in_default.ensures))
    (c.next_gtid-gtid.ensures.gtid ∙ ap (λ (v : Certifying). next_gtid (limits_of v) v.certified c.args.origin) (sym c.self.view_is))
    (rw shut refl)
    (ap (map last_in) c.in_ok-before.ensures.entries ∙ inserted i.last.entries c.args.origin c.next_gtid-gtid.result.number)
    (on_ok c.write.result no c.write.ensures.ok ∙ ap (λ is. written_by c.args.place c.next_gtid-gtid.result is (map kept_in i.kept)) c.as_slice.ensures.items))
