-- Certified transactions that a member hasn't committed, by ascending place.
use Rattle.std.specs.Prelude.{ℕ, Bool, true, ◌&&◌, ◌||◌, not, Option, Some, None, List, [], ◌∷◌, ◌++◌, filter, map, nat_lt, if◌then◌else◌}
use Rattle.std.specs.List.{list_all}
use Rattle.gr_ids.specs.declared.names.Gtid.{Gtid}
use Rattle.gr_ids.specs.declared.names.Inc.{Inc}
use Rattle.gr_ids.specs.Names.{gtid_eq, inc_eq}
use Rattle.gtid_sets.specs.Sets.{Gtids, has}
use Rattle.group_rules.specs.declared.holds.Pending.{Pending}
pub use Rattle.member_backlog.specs.declared.uncommitted.Uncommitted.{Uncommitted}

-- one more is certified, unless it is committed already
abbrev pub with_certified : Gtids → List Uncommitted → Uncommitted → List Uncommitted
with_certified e us u = us ++ (if has e u.gtid then [] else u ∷ [])

-- the one with this GTID waits no more
abbrev pub without : Gtid → List Uncommitted → List Uncommitted
without g us = filter (λ u. not (gtid_eq g u.gtid)) us

-- those that are committed already don't wait
abbrev pub without_committed : Gtids → List Uncommitted → List Uncommitted
without_committed e us = filter (λ u. not (has e u.gtid)) us

abbrev pub pending_as : Uncommitted → Pending
pending_as u = record { place = u.place; gtid = u.gtid }

abbrev pub pending_of : List Uncommitted → List Pending
pending_of us = map pending_as us

abbrev pub is_below : Option ℕ → ℕ → Bool
is_below None p = true
is_below (Some b) p = nat_lt p b

-- of the AFTER transactions this member's own, and those below a place, if there is one
abbrev pub after_below : Inc → Option ℕ → List Uncommitted → List Gtid
after_below me b us = map (λ u. u.gtid) (filter (λ u. u.after && (inc_eq u.id.origin me || is_below b u.place)) us)

-- none of them is below this place
abbrev pub is_clear : ℕ → List Uncommitted → Bool
is_clear p us = list_all (λ u. not (nat_lt u.place p)) us
