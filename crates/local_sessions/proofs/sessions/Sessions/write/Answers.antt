-- The session's transaction is active, and what it finds is what the statement is answered by.
use Rattle.std.proofs.Common.{ap, refl, sym, ◌∙◌}
use Rattle.row_locks.specs.Locking.{holder_beside}
use Rattle.local_sessions.specs.Standing.{ascend, session_in, with_change}
use Rattle.local_sessions.specs.Replies.{Reply, statement, statement_in}
use Rattle.local_sessions.proofs.Active.{opened, on_err_from, found_in, found_is, does_nothing, free_key}
use Rattle.local_sessions.proofs.Order.{ascend_changed}
use Rattle.local_sessions.proofs.sessions.Sessions.write.Goals as goal

pub returns-in-Some-refusal-clause-answer : goal.returns-in-Some-refusal-clause-answer
returns-in-Some-refusal-clause-answer c =
    let same = c.in_default.ensures.none in
    let x = c.in-Some-session_of.x.now in
    let there = found_in c.deref.result.now c.args.self.now c.args.session x c.in-Some-session_of.ensures (c.deref.ensures.value ∙ (c.self.view_is ∙ same.0)) in
    ap (λ (r : Reply). r.answer)
    (opened (statement_in c.args.at.now c.args.change) (session_in c.args.self.now c.args.session) x c.in_default.ensures.answer there
    ∙ (ap (λ t. statement_in t c.args.change x) (sym same.1) ∙ c.in-Some-refusal.ensures))

pub returns-in-Some-refusal-clause-done : goal.returns-in-Some-refusal-clause-done
returns-in-Some-refusal-clause-done c =
    let same = c.in_default.ensures.none in
    let x = c.in-Some-session_of.x.now in
    let there = found_in c.deref.result.now c.args.self.now c.args.session x c.in-Some-session_of.ensures (c.deref.ensures.value ∙ (c.self.view_is ∙ same.0)) in
    let nothing =
    ap (λ (r : Reply). r.deed)
    (opened (statement_in c.args.at.now c.args.change) (session_in c.args.self.now c.args.session) x c.in_default.ensures.answer there
    ∙ (ap (λ t. statement_in t c.args.change x) (sym same.1) ∙ c.in-Some-refusal.ensures)) in
    does_nothing (statement c.args.at.now c.args.change (session_in c.args.self.now c.args.session)).deed c.args.session c.args.self.now c.barred.new.self c.args.at.now c.barred.new.at nothing same.0 same.1

pub make-requires-clause-free : goal.make-requires-clause-free
make-requires-clause-free c =
    let same = c.in_default.ensures.none in
    let x = c.in-Some-session_of.x.now in
    let there = found_in c.deref.result.now c.args.self.now c.args.session x c.in-Some-session_of.ensures (c.deref.ensures.value ∙ (c.self.view_is ∙ same.0)) in
    ap (λ s. holder_beside c.barred.new.at.locks s c.args.change.item) (sym (found_is c.args.self.now c.args.session x there))
    ∙ free_key c.barred.new.at c.args.change x c.in_default-refusal.ensures

pub returns-in_err-make-clause-err : goal.returns-in_err-make-clause-err
returns-in_err-make-clause-err c =
    let same = c.in_default.ensures.none in
    on_err_from c.from_residual.result (c.in_err-make.ensures.err.0 ∙ (c.self.view_is ∙ same.0), ap (λ l. record c.barred.new.at { locks = l }) c.in_err-make.ensures.err.1 ∙ same.1)

pub invariant_of-self-2 : goal.invariant_of-self-2
invariant_of-self-2 c =
    ap ascend c.in_ok-make.ensures.changes ∙ (ascend_changed c.args.session (with_change c.args.change) c.self.inside.list.items (λ x. refl) ∙ c.self.invariant)
