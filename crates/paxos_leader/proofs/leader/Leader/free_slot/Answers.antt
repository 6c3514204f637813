-- A slot that isn't free is passed.
use Rattle.std.proofs.Common.{◌≡◌, ℕ, suc, ◌+◌, ◌-◌, Bool, true, false, Some, refl, sym, ap, ◌∙◌, arith}
use Rattle.std.specs.Prelude.{not, is_some, ◌||◌}
use Rattle.node_rules.specs.Leader.{Leader, free_slot, proposal_at}
use Rattle.node_rules.specs.Learner.{is_decided}
use Rattle.paxos_leader.proofs.leader.Leader.free_slot.Goals as goal

passes : (d : ℕ → Bool) (l : Leader) (k t : ℕ) → not (d t || is_some (proposal_at l t)) ≡ false → free_slot d l (suc k) t ≡ free_slot d l k (t + 1)
passes d l k t h = go (d t || is_some (proposal_at l t)) refl
  where
    go : (u : Bool) → (d t || is_some (proposal_at l t)) ≡ u → free_slot d l (suc k) t ≡ free_slot d l k (t + 1)
    go true p = rw p refl
    go false p = absurd (let no : true ≡ false = ap not (sym p) ∙ h in cc)

stops : (d : ℕ → Bool) (l : Leader) (k t : ℕ) → not (d t || is_some (proposal_at l t)) ≡ true → free_slot d l (suc k) t ≡ Some t
stops d l k t h = go (d t || is_some (proposal_at l t)) refl
  where
    go : (u : Bool) → (d t || is_some (proposal_at l t)) ≡ u → free_slot d l (suc k) t ≡ Some t
    go true p = absurd (let no : false ≡ true = ap not (sym p) ∙ h in cc)
    go false p = rw p refl

pub returns-then-is_free : goal.returns-then-is_free
returns-then-is_free c =
    let k = (c.args.horizon - c.loop-passed.passed) - 1 in
    let left : suc ((c.args.horizon - c.loop-passed.passed) - 1) + c.loop-passed.passed ≡ c.args.horizon = omega arith in
    sym (c.loop-passed.invariant.same (suc ((c.args.horizon - c.loop-passed.passed) - 1)) left ∙ stops (is_decided c.args.learner.now) c.args.self.now ((c.args.horizon - c.loop-passed.passed) - 1) c.loop-passed.slot (sym c.is_free.ensures ∙ c.if-is_free.true))

pub loop-passed-preserved : goal.loop-passed-preserved
loop-passed-preserved c = record {
  same = λ k q. c.loop-passed.invariant.same (suc k) (omega arith) ∙ passes (is_decided c.args.learner.now) c.args.self.now k c.loop-passed.slot (sym c.is_free.ensures ∙ c.if-is_free.false);
  place = omega arith;
}

pub returns : goal.returns
returns c = sym (c.loop-passed.invariant.same 0 (omega arith))
