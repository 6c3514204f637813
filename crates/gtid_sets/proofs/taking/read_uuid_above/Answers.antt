use Rattle.std.proofs.Common.{◌≡◌, suc, drop, ◌≤◌, ◌<◌, ◌-◌, true, false, length, take, sym, ap, ◌∙◌, arith, add-one}
use Rattle.std.proofs.lemmas.List.{append-nil}
use Rattle.byte_forms.specs.Reads.{Got, Fault}
use Rattle.byte_forms.proofs.FieldLemmas.{field-whole, field-short, field-stops, are_bytes_from}
use Rattle.gtid_sets.specs.Spelling.{begins_uuid, is_above}
use Rattle.gtid_sets.proofs.UuidTakes.{padded, read_next, begins_padded, begins_more}
use Rattle.gtid_sets.proofs.taking.read_uuid_above.Goals as goal

pub returns-then-i-bytes : goal.returns-then-i-bytes
returns-then-i-bytes c =
    (omega arith, c.loop-i.invariant.within, field-short (begins_uuid c.args.before) 16 c.args.bytes.now (omega arith) (λ j some le. c.loop-i.invariant.begins j some (omega arith)) ∙ ap Fault (omega arith))

pub returns-then-not-is_above : goal.returns-then-not-is_above
returns-then-not-is_above c =
    let i = c.loop-i.i in
    let bytes = c.args.bytes.now in
    let more : i < length bytes = omega (arith, c.loop-i.invariant.within, c.if-i-bytes.false) in
    let next = read_next bytes i _ c.loop-i-test.true more c.loop-i.invariant.read in
    let stops : begins_uuid c.args.before (take (suc i) bytes) ≡ false = begins_padded c.args.before bytes i (are_bytes_from bytes (λ k. (let h = c.type_inv.bytes k in omega arith))) more ∙ ap (is_above c.args.before) (sym next) ∙ sym c.is_above.ensures ∙ c.if-not-is_above.true in
    (omega (arith, c.loop-i-test.true), c.loop-i.invariant.within, field-stops (begins_uuid c.args.before) 16 bytes i (length bytes - i) c.loop-i-test.true more (omega (arith, more)) c.loop-i.invariant.begins stops)

pub loop-i-preserved : goal.loop-i-preserved
loop-i-preserved c =
    let i = c.loop-i.i in
    let bytes = c.args.bytes.now in
    let more : i < length bytes = omega (arith, c.loop-i.invariant.within, c.if-i-bytes.false) in
    let next = read_next bytes i _ c.loop-i-test.true more c.loop-i.invariant.read in
    let passes : begins_uuid c.args.before (take (suc i) bytes) ≡ true = begins_padded c.args.before bytes i (are_bytes_from bytes (λ k. (let h = c.type_inv.bytes k in omega arith))) more ∙ ap (is_above c.args.before) (sym next) ∙ sym c.is_above.ensures ∙ c.if-not-is_above.false in
    record {
      read = next ∙ ap (padded bytes) (sym (add-one i));
      within = omega (arith, more);
      begins = λ j some le. begins_more c.args.before bytes i c.loop-i.invariant.begins passes j some (omega (arith, le));
    }

pub returns : goal.returns
returns c =
    let bytes = c.args.bytes.now in
    let all : c.loop-i.i ≡ 16 = omega (arith, c.loop-i-test.false, c.loop-i.auto.i-end) in
    let long : 16 ≤ length bytes = omega (arith, all, c.loop-i.invariant.within) in
    let read : c.loop-i.greatest ≡ take 16 bytes = c.loop-i.invariant.read ∙ ap (padded bytes) all ∙ append-nil (take 16 bytes) in
    (long, field-whole (begins_uuid c.args.before) 16 bytes long (λ j some le. c.loop-i.invariant.begins j some (omega (arith, le, all))) ∙ ap (λ xs. Got xs (drop 16 bytes)) (sym read))
