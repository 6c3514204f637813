-- An own one is taken out, or the first of the queue.
use Rattle.std.proofs.Common.{ap, sym, ◌∙◌}
use Rattle.gr_ids.specs.Names.{inc_eq}
use Rattle.member_backlog.specs.declared.uncommitted.Uncommitted.{Uncommitted}
use Rattle.member_parts.specs.declared.parts.MemberParts.{MemberParts}
use Rattle.member_parts.specs.Remote.{without_own}
use Rattle.member_parts.proofs.Committed.{commits_own, out_stands, out_written, own_written}
use Rattle.member_parts.proofs.parts.MemberParts.commit.Goals as goal

pub returns-then-is_mine-clause-written : goal.returns-then-is_mine-clause-written
returns-then-is_mine-clause-written c = λ s l e h f.
    own_written s c.args.me l e c.args.one.now c.args.one.now.gtid c.args.self.now c.take_out.result h (ap (λ (u : Uncommitted). inc_eq u.id.origin c.args.me) (sym h.is_it) ∙ sym c.if-is_mine.ensures) (ap (λ (u : Uncommitted). u.gtid) h.is_it) c.take_out.ensures.found f

pub returns-then-is_mine-clause-stands : goal.returns-then-is_mine-clause-stands
returns-then-is_mine-clause-stands c = λ s l e h f.
    (let x : MemberParts = c.args.self.now in
    commits_own s c.args.me l e c.args.one.now x c.commit.new.self c.take_out.new.self h (ap (λ (u : Uncommitted). inc_eq u.id.origin c.args.me) (sym h.is_it) ∙ sym c.if-is_mine.ensures) c.commit.ensures
    (c.take_out.ensures.rest ∙ ap (λ (u : Uncommitted). without_own u.gtid x.own) h.is_it) f)

pub returns-else-is_mine-clause-written : goal.returns-else-is_mine-clause-written
returns-else-is_mine-clause-written c = λ s l e h f.
    out_written s c.args.me l e c.args.one.now c.args.self.now c.commits.new.self c.commits.result h (ap (λ (u : Uncommitted). inc_eq u.id.origin c.args.me) (sym h.is_it) ∙ sym c.if-is_mine.ensures)
    (record { none = c.commits.ensures.none; some = c.commits.ensures.some; last = c.commits.ensures.last }) f

pub returns-else-is_mine-clause-stands : goal.returns-else-is_mine-clause-stands
returns-else-is_mine-clause-stands c = λ s l e h f.
    out_stands s c.args.me l e c.args.one.now c.args.self.now c.commit.new.self c.commits.new.self c.commits.result h (ap (λ (u : Uncommitted). inc_eq u.id.origin c.args.me) (sym h.is_it) ∙ sym c.if-is_mine.ensures) c.commit.ensures
    (record { none = c.commits.ensures.none; some = c.commits.ensures.some; last = c.commits.ensures.last }) f
