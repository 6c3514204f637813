-- What happens to one silence, and what is read from the silences alone.
use Rattle.std.specs.Prelude.{ℕ, ◌+◌, Bool, true, false, List, min, if◌then◌else◌}
use Rattle.gr_ids.specs.declared.names.Inc.{Inc}
use Rattle.gr_ids.specs.Names.{inc_eq}
use Rattle.group_rules.specs.declared.watch.Silence.{Silence}
use Rattle.group_rules.specs.Watch.{Watch, suspects, leads_by_rank}
use Rattle.failure_events.specs.Watching.{last_count}

abbrev pub heard_from : Inc → Silence → Silence
heard_from i x = elim (inc_eq x.inc i) [ true ↦ record x { ticks = 0 } | false ↦ x ]

-- at how many ticks in a row the majority was lost
abbrev pub next_loss : Bool → ℕ → ℕ
next_loss lost n = if lost then min (n + 1) last_count else 0

-- one tick more, and no more than the last count
abbrev pub one_more : Silence → Silence
one_more x = record x { ticks = min (x.ticks + 1) last_count }

abbrev pub watch_of : List Silence → Watch
watch_of xs = record { silences = xs; lost_for = 0 }

abbrev pub is_suspected_in : Inc → List Silence → Inc → Bool
is_suspected_in me xs i = suspects me (watch_of xs) i

abbrev pub leads_in : Inc → List Silence → List Inc → Bool
leads_in me xs online = leads_by_rank me (watch_of xs) online
