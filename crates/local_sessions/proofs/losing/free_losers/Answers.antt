-- One more loses its keys, if it is to.
use Rattle.std.proofs.Common.{◌+◌, drop, ap, sym, ◌∙◌}
use Rattle.row_locks.specs.Locking.{session_at}
use Rattle.local_sessions.specs.Others.{unless_killed}
use Rattle.local_sessions.proofs.Losers.{next_of, none_after, none_killed, one_then}
use Rattle.local_sessions.proofs.losing.free_losers.Goals as goal

pub loop-session-preserved : goal.loop-session-preserved
loop-session-preserved c = record {
  keys = λ j.
      let k = session_at c.loop-session.locks.keys j in
      let rest = drop (c.loop-session.session-index + 1) c.args.losers.now in
      ap (unless_killed c.args.list.now rest) (c.free_loser.ensures.keys j)
      ∙ (one_then c.args.list.now c.session-item.result rest k
      ∙ (ap (λ ss. unless_killed c.args.list.now ss k) (sym (next_of c.args.losers.now c.loop-session.session-index c.session-item.result c.loop-session-test.true c.session-item.is)) ∙ c.loop-session.invariant.keys j));
  places = c.free_loser.ensures.places ∙ c.loop-session.invariant.places;
}

pub returns-clause-keys : goal.returns-clause-keys
returns-clause-keys c j =
    let k = session_at c.loop-session.locks.keys j in
    sym (none_killed c.args.list.now k) ∙ (ap (λ ss. unless_killed c.args.list.now ss k) (sym (none_after c.args.losers.now c.loop-session.session-index c.loop-session-test.false)) ∙ c.loop-session.invariant.keys j)
