-- The parts have what was given.
use Rattle.std.proofs.Common.{map, sym, ap, ◌∙◌}
use Rattle.std.proofs.lemmas.Result.{on_ok_weaker}
use Rattle.donor_recovery.specs.declared.at_add.Begin.{Begin}
use Rattle.group_rules.specs.Recovery.{certs_given}
use Rattle.member_backlog.specs.Standing.{uncommitted_of}
use Rattle.member_joining.proofs.Readings.{back, read_back}
use Rattle.member_moment.proofs.Restored.{waits}
use Rattle.member_moment.proofs.moment.Moment.restore.Goals as goal

pub returns-clause-restored : goal.returns-clause-restored
returns-clause-restored c = on_ok_weaker c.restore.result (λ done s l g i b certs each ex true_give bare st.
    done s l g (certs_given g.txns) i (ap (λ (z : Begin). z.at) b) (c.as_slice.ensures ∙ (ap (λ (z : Begin). z.queue) b ∙ sym (back g.txns each)))
    (c.deref.ensures.value ∙ c.in_ok-certified.ensures ∙ (waits c.args.txns.now ∙ ap (map uncommitted_of) (sym certs))) (ap (λ t. t.executed) c.tables.ensures ∙ ex) true_give (read_back g.txns) bare st) c.restore.ensures
