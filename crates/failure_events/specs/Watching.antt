-- A member that watches the others: who it is, its limits, and the watch that it keeps.
use Rattle.std.specs.Prelude.{◌≡◌, ℕ, Bool, true, false, not, List, ◌++◌, filter, map, min}
use Rattle.std.specs.List.{list_any}
use Rattle.gr_ids.specs.declared.names.Inc.{Inc}
use Rattle.gr_ids.specs.declared.limits.Limits.{Limits}
use Rattle.gr_ids.specs.Names.{inc_eq, has_inc}
use Rattle.group_rules.specs.declared.watch.Silence.{Silence}
use Rattle.group_rules.specs.Watch.{Watch, no_watch, follow_all, watch}
use Rattle.group_rules.specs.Events.{Did, Came, Enters, Founds, Hears, Life, Setup, Ticks, Took}

pub record Watching : Type 0 where
  pub me : Inc
  pub limits : Limits
  pub watch : Watch

abbrev pub first_watch : Inc → Limits → List Inc → Watching
first_watch me x members = record { me = me; limits = x; watch = follow_all no_watch members }

-- ---- the members change: those that are none any more aren't watched, and of new ones silence is counted from now on

abbrev pub is_watched : List Silence → Inc → Bool
is_watched xs i = list_any (λ x. inc_eq x.inc i) xs

-- a member is watched from now on
abbrev pub unheard : Inc → Silence
unheard i = record { inc = i; ticks = 0 }

abbrev pub newcomers : List Silence → List Inc → List Inc
newcomers xs members = filter (λ i. not (is_watched xs i)) members

abbrev pub silences_of : List Inc → List Silence → List Silence
silences_of members xs = filter (λ x. has_inc members x.inc) xs ++ map unheard (newcomers xs members)

abbrev pub followed : List Inc → Watch → Watch
followed members w = record w { silences = silences_of members w.silences }

-- ---- ticks

-- 2 ^ 64 - 1
abbrev pub last_count : ℕ
last_count = 18446744073709551615

-- a count that stands at its last value stays there
abbrev pub capped : Watch → Watch
capped w = record { silences = map {A = Silence} (λ x. record x { ticks = min x.ticks last_count }) w.silences; lost_for = min w.lost_for last_count }

-- ---- histories

-- the watch of a history, but that its counts stop at their last value
pub record Watches (s : Setup) (me : Inc) (l : Life) (x : Watching) : Type 0 where
  pub is_me : x.me ≡ me
  pub limits : x.limits ≡ s.limits
  pub watch : x.watch ≡ capped (watch s me l)

-- the founding, a Welcome, a tick, a message and an entry change the watch
abbrev pub is_of_watch : Did → Bool
is_of_watch Founds = true
is_of_watch (Enters w) = true
is_of_watch (Came Ticks) = true
is_of_watch (Came (Hears m)) = true
is_of_watch (Took e) = true
is_of_watch d = false
