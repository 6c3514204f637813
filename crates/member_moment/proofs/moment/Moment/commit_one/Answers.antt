-- What may be committed is what is next, and all of the member commits it.
use Rattle.std.proofs.Common.{Some, None, sym, subst, ◌∙◌}
use Rattle.std.proofs.lemmas.Bool.{false≢true}
use Rattle.std.proofs.lemmas.Result.{on_ok_weaker}
use Rattle.gtid_sets.specs.Canonical.{IsNumber}
use Rattle.group_rules.specs.Member.{Member}
use Rattle.member_backlog.specs.declared.uncommitted.Uncommitted.{Uncommitted}
use Rattle.member_moment.specs.Standing.{Stands}
use Rattle.member_moment.specs.declared.moment.Moment.{Moment}
use Rattle.member_moment.proofs.Aside.{but_parts}
use Rattle.member_moment.proofs.Committed.{comes, goes, may_at, stands_at, stays, written_at}
use Rattle.member_moment.proofs.moment.Moment.commit_one.Goals as goal

pub returns-then-not-may_commit : goal.returns-then-not-may_commit
returns-then-not-may_commit c = λ base a d i p st.
    subst (λ (b : Member). Stands base b c.args.self.now) (sym (stays d a (sym (may_at base a d c.args.one.now c.args.self.now i st c.may_commit.result c.may_commit.ensures) ∙ c.if-not-may_commit.true))) st

pub returns-then-not-is_number : goal.returns-then-not-is_number
returns-then-not-is_number c = λ base a d i p st.
    let may = sym (may_at base a d c.args.one.now c.args.self.now i st c.may_commit.result c.may_commit.ensures) ∙ c.if-not-may_commit.false in
    let n = comes d a i.waits st.rest.ranged may p in
    let number : IsNumber c.args.one.now.gtid.number = subst (λ (u : Uncommitted). IsNumber u.gtid.number) (sym i.is_it) n.number in
    absurd (false≢true (sym c.if-not-is_number.true ∙ c.is_number.ensures.all number))

pub returns-in-Some : goal.returns-in-Some
returns-in-Some c = on_ok_weaker c.commit_done.result
    (λ done. λ base a d i p st.
    let x : Moment = c.args.self.now in
    let may = sym (may_at base a d c.args.one.now x i st c.may_commit.result c.may_commit.ensures) ∙ c.if-not-may_commit.false in
    let written = written_at base a d c.args.one.now x i st may (Some c.in-Some.done) c.in-Some.ensures.written in
    subst (λ (b : Member). Stands base b c.commit_done.new.self) (sym (goes d a may))
    (done base a d (record { is_it = i.is_it; body = written.0; changes = written.1 })
    (record { next = comes d a i.waits st.rest.ranged may p; others = but_parts base a x c.commit.new.self st; parts = stands_at base a d c.args.one.now x i st may c.commit.new.self c.commit.ensures.stands })))
    c.commit_done.ensures

pub returns-in-None : goal.returns-in-None
returns-in-None c = λ base a d i p st.
    let x : Moment = c.args.self.now in
    let may = sym (may_at base a d c.args.one.now x i st c.may_commit.result c.may_commit.ensures) ∙ c.if-not-may_commit.false in
    absurd (written_at base a d c.args.one.now x i st may None c.in-None.ensures.written)
