-- The session's transaction is active, and what is checked is what the commit is answered by.
use Rattle.std.proofs.Common.{ap, refl, sym, ◌∙◌, arith}
use Rattle.std.proofs.lemmas.List.{with_items_is}
use Rattle.local_sessions.specs.Standing.{ascend, asks, changed_at, session_in}
use Rattle.local_sessions.specs.Replies.{Reply, Ends, commit, commit_changes}
use Rattle.local_sessions.proofs.Active.{opened, on_err_from, found_in, does_as, does_ask}
use Rattle.local_sessions.proofs.Order.{ascend_changed}
use Rattle.local_sessions.proofs.sessions.Sessions.commit.Goals as goal

pub returns-in_err-answer-clause-err : goal.returns-in_err-answer-clause-err
returns-in_err-answer-clause-err c = on_err_from c.from_residual.result c.in_default.ensures.none

pub returns-in_err-body-in-Fits-clause-err : goal.returns-in_err-body-in-Fits-clause-err
returns-in_err-body-in-Fits-clause-err c = on_err_from c.from_residual-in_err-body-in-Fits.result c.in_default.ensures.none

pub invariant_of-self : goal.invariant_of-self
invariant_of-self c =
    ap ascend (with_items_is c.self.inside.list c.ask.new.list (omega (arith, c.ask.auto.list, c.deref_mut.ensures.len)) ∙ (c.ask.ensures ∙ ap (changed_at c.args.session asks) c.deref_mut.ensures.value))
    ∙ (ascend_changed c.args.session asks c.self.inside.list.items (λ x. refl) ∙ c.self.invariant)

pub returns-in-Ends-clause-answer : goal.returns-in-Ends-clause-answer
returns-in-Ends-clause-answer c =
    let same = c.in_default.ensures.none in
    let x = c.in-Some-session_of.x.now in
    let there = found_in c.deref.result.now c.args.self.now c.args.session x c.in-Some-session_of.ensures (c.deref.ensures.value ∙ (c.self.view_is ∙ same.0)) in
    ap (λ (r : Reply). r.answer)
    (opened (λ y. commit_changes c.args.at.now y y.changes) (session_in c.args.self.now c.args.session) x c.in_default.ensures.answer there
    ∙ (ap (λ t. commit_changes t x x.changes) (sym same.1) ∙ (rw c.in-Ends.is at c.in_ok-answer.ensures)))

pub returns-in-Ends-clause-done : goal.returns-in-Ends-clause-done
returns-in-Ends-clause-done c =
    let same = c.in_default.ensures.none in
    let x = c.in-Some-session_of.x.now in
    let there = found_in c.deref.result.now c.args.self.now c.args.session x c.in-Some-session_of.ensures (c.deref.ensures.value ∙ (c.self.view_is ∙ same.0)) in
    let ends =
    ap (λ (r : Reply). r.deed)
    (opened (λ y. commit_changes c.args.at.now y y.changes) (session_in c.args.self.now c.args.session) x c.in_default.ensures.answer there
    ∙ (ap (λ t. commit_changes t x x.changes) (sym same.1) ∙ (rw c.in-Ends.is at c.in_ok-answer.ensures))) in
    does_as (commit c.args.at.now (session_in c.args.self.now c.args.session)).deed Ends c.args.session c.args.self.now c.barred.new.self c.end.new.self c.args.at.now c.barred.new.at c.end.new.at ends same.0 same.1 c.end.ensures

pub returns-in_ok-body-in-Fits-clause-done : goal.returns-in_ok-body-in-Fits-clause-done
returns-in_ok-body-in-Fits-clause-done c =
    let same = c.in_default.ensures.none in
    let x = c.in-Some-session_of.x.now in
    let there = found_in c.deref.result.now c.args.self.now c.args.session x c.in-Some-session_of.ensures (c.deref.ensures.value ∙ (c.self.view_is ∙ same.0)) in
    let asked =
    ap (λ (r : Reply). r.deed)
    (opened (λ y. commit_changes c.args.at.now y y.changes) (session_in c.args.self.now c.args.session) x c.in_default.ensures.answer there
    ∙ (ap (λ t. commit_changes t x x.changes) (sym same.1) ∙ (rw c.in-Fits.is at c.in_ok-answer.ensures).0)) in
    let list =
    with_items_is c.self.inside.list c.ask.new.list (omega (arith, c.ask.auto.list, c.deref_mut.ensures.len))
    ∙ (c.ask.ensures ∙ ap (changed_at c.args.session asks) (c.deref_mut.ensures.value ∙ (c.self.view_is ∙ same.0))) in
    does_ask (commit c.args.at.now (session_in c.args.self.now c.args.session)).deed c.args.session c.args.self.now _ c.args.at.now c.barred.new.at asked list same.1
