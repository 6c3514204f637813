use Rattle.std.proofs.Common.{length, drop, sym, ap, ◌∙◌, arith}
use Rattle.byte_forms.specs.Reads.{Got, Fault}
use Rattle.byte_forms.specs.Fields.{field}
use Rattle.gtid_sets.specs.Spelling.{begins_uuid}
use Rattle.gtid_sets.proofs.UuidTakes.{word_drop, word_left}
use Rattle.gtid_sets.proofs.taking.take_uuid_above.Goals as goal

pub returns-in_ok-take_slice-in-Ok-clause-ok : goal.returns-in_ok-take_slice-in-Ok-clause-ok
returns-in_ok-take_slice-in-Ok-clause-ok c =
    let t = c.in_ok-take_slice-in-Ok.ensures.ok in
    let here = c.left.ensures in
    record {
      value = ap (field (begins_uuid c.args.before) 16) (sym here) ∙ c.in-Ok.ensures.1 ∙ ap (Got c.in-Ok.uuid) (ap (drop 16) here ∙ sym (word_drop 16 _ _ _ t.value));
      whole = t.whole;
    }

pub returns-in_ok-take_slice-in-Err-clause-misfit : goal.returns-in_ok-take_slice-in-Err-clause-misfit
returns-in_ok-take_slice-in-Err-clause-misfit c =
    let t = c.in_ok-take_slice-in-Err.ensures.ok in
    let here = c.left.ensures in
    let fork = c.fork-fault.ensures in
    let total = t.whole ∙ ap (λ x. x.total) fork in
    let left = word_left c.in-Err.i _ _ _ t.value ∙ ap (λ x. length x.left) fork in
    record {
      fault = ap (field (begins_uuid c.args.before) 16) (sym here) ∙ c.in-Err.ensures.2 ∙ ap Fault (omega (arith, c.at.ensures, total, left, ap length here));
      within = omega (arith, c.at.ensures, total);
    }
