-- Each count is one more.
use Rattle.std.proofs.Common.{ap, ◌∙◌}
use Rattle.gr_ids.specs.declared.names.Inc.{Inc}
use Rattle.gr_ids.specs.declared.limits.Limits.{Limits}
use Rattle.group_rules.specs.Watch.{Watch, is_lost, ticked}
use Rattle.failure_events.specs.Watching.{Watching, capped}
use Rattle.failure_events.proofs.Ticking.{ticks}
use Rattle.failure_events.proofs.watch.Watch.tick.Goals as goal

abbrev watching : Inc → Limits → Watch → Watching
watching me x w = record { me = me; limits = x; watch = w }

abbrev ticked_on : Watching → Watching
ticked_on w = record w { watch = capped (ticked w.me w.watch) }

pub returns : goal.returns
returns c =
    let counts = c.tick_all.ensures in
    let lost = c.is_majority_lost-lost.ensures ∙ ap (is_lost c.self.inside.me) (c.deref.ensures.value ∙ counts) in
    rw (c.next_count-self-inside.ensures, lost, counts)
    (ap (watching c.self.inside.me c.self.inside.limits) (ticks c.self.inside.me (record { silences = c.self.inside.silences.items; lost_for = c.self.inside.lost_for })) ∙ ap ticked_on c.self.view_is)
