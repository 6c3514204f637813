-- Held begins, ascending by session: what becomes of them. (MySQL 8.0 Reference Manual, Group Replication: Transaction Consistency Guarantees; the wait
-- limit, and that a begin is what waits, are this project's own.)
use Rattle.std.specs.Prelude.{ℕ, ◌+◌, Bool, true, ◌&&◌, not, Option, Some, None, List, [], ◌∷◌, filter, min, nat_lt, nat_le, if◌then◌else◌, ◌==◌}
use Rattle.std.specs.List.{find, list_all, list_any}
use Rattle.gr_ids.specs.declared.names.ValueId.{ValueId}
use Rattle.gr_ids.specs.Names.{is_id}
use Rattle.group_rules.specs.Holds.{is_met}
use Rattle.group_rules.specs.declared.holds.Conditions.{Conditions}
use Rattle.group_rules.specs.declared.holds.Pending.{Pending}
pub use Rattle.consistency_waits.specs.declared.held.Held.{Held}
pub use Rattle.consistency_waits.specs.declared.held.Released.{Released}

-- 2 ^ 32 - 1
abbrev pub last_tick : ℕ
last_tick = 4294967295

-- a begin is held from now on
abbrev pub new_hold : ℕ → Conditions → ℕ → Held
new_hold s x limit = record { session = s; conditions = x; sync_place = None; ticks = 0; limit = limit }

-- a hold put among the others, ascending by session
abbrev pub with_hold : List Held → Held → List Held
with_hold [] h = h ∷ []
with_hold (x ∷ xs) h = if nat_lt h.session x.session then h ∷ x ∷ xs else x ∷ with_hold xs h

-- each session is below all those behind it
abbrev pub ascend : List Held → Bool
ascend [] = true
ascend (h ∷ hs) = list_all (λ x. nat_lt h.session x.session) hs && ascend hs

-- the session's hold
abbrev pub held_in : List Held → ℕ → Option Held
held_in hs s = find (λ h. h.session == s) hs

abbrev pub is_held : List Held → ℕ → Bool
is_held hs s = list_any (λ h. h.session == s) hs

-- the Sync is taken at this place
abbrev pub placed : ValueId → ℕ → Held → Held
placed i p h = if is_id h.conditions.sync i then record h { sync_place = Some p } else h

-- its conditions hold
abbrev pub is_due : List Pending → Held → Bool
is_due now h = is_met h.conditions h.sync_place now

abbrev pub released_as : Held → Released
released_as h = record { session = h.session; sync = h.sync_place }

-- one tick more; a count that stands at its last value stays there
abbrev pub ticked : Held → Held
ticked h = record h { ticks = min (h.ticks + 1) last_tick }

-- its ticks have reached its limit
abbrev pub is_over : Held → Bool
is_over h = nat_le h.limit h.ticks

-- all but those of this session
abbrev pub without : ℕ → List Held → List Held
without s hs = filter (λ h. not (h.session == s)) hs
