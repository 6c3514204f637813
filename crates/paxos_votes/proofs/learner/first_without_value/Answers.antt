-- A slot that has an entry is passed, and is in range.
use Rattle.std.proofs.Common.{◌≡◌, suc, ◌+◌, ◌-◌, ◌≤◌, true, false, sym, ◌∙◌, arith, length}
use Rattle.std.specs.Prelude.{is_some}
use Rattle.std.specs.Ordering.{nat_cmp}
use Rattle.std.specs.Map.{lookup}
use Rattle.std.specs.BTreeMap.{is_at}
use Rattle.slot_values.specs.Slots.{last_slot}
use Rattle.paxos_votes.proofs.Decided.{passes, stops, in_range_at}
use Rattle.paxos_votes.proofs.learner.first_without_value.Goals as goal

pub returns-then-not-contains_key-clause-slot : goal.returns-then-not-contains_key-clause-slot
returns-then-not-contains_key-clause-slot c =
    let es = c.args.decided.now.entries in
    let no : is_some (lookup (is_at (nat_cmp c.loop-passed.slot)) es) ≡ false = sym c.contains_key.ensures ∙ c.if-not-contains_key.true in
    let left : (length es - c.loop-passed.passed) + c.loop-passed.passed ≡ length es = omega arith in
    sym (c.loop-passed.invariant.same (length es - c.loop-passed.passed) left ∙ stops es (length es - c.loop-passed.passed) c.loop-passed.slot no)

pub loop-passed-preserved : goal.loop-passed-preserved
loop-passed-preserved c =
    let es = c.args.decided.now.entries in
    let yes : is_some (lookup (is_at (nat_cmp c.loop-passed.slot)) es) ≡ true = sym c.contains_key.ensures ∙ c.if-not-contains_key.false in
    let most : c.loop-passed.slot ≤ last_slot = in_range_at es c.loop-passed.slot c.args.from c.requires yes in
    record {
      same = λ k q. c.loop-passed.invariant.same (suc k) (omega arith) ∙ passes es k c.loop-passed.slot yes;
      range = omega arith;
    }

pub returns-clause-slot : goal.returns-clause-slot
returns-clause-slot c = sym (c.loop-passed.invariant.same 0 (omega arith))
