use Rattle.std.proofs.Common.{ap, ◌∙◌}
use Rattle.gr_ids.specs.declared.names.Ballot.{Ballot}
use Rattle.group_rules.specs.View.{View}
use Rattle.member_moment.proofs.Minded.{needs_so}
use Rattle.member_moment.proofs.moment.Moment.needs_leader.Goals as goal

pub returns : goal.returns
returns c = λ base a st.
    c.is_leaderless.ensures
    ∙ needs_so base a c.args.self.now st c.watch.result.now c.seats-seats.result.now c.promise.result.inc c.watch.ensures (c.seats-seats.ensures ∙ ap (λ (v : View). v.seats) (c.view.ensures ∙ ap (λ (l : _). l.view) c.list.ensures)) (ap (λ (b : Ballot). b.inc) c.promise.ensures)
