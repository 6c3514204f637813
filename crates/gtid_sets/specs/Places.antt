-- Where a GTID stands among the runs of a set.
use Rattle.std.specs.Prelude.{◌≡◌, ℕ, suc, Bool, true, false, List, [], ◌∷◌, nat_lt, nat_le, if◌then◌else◌}
use Rattle.gr_ids.specs.declared.names.Gtid.{Gtid}
use Rattle.gr_ids.specs.Names.{bytes_eq, bytes_lt}
use Rattle.gtid_sets.specs.Canonical.{IsRun}
use Rattle.gtid_sets.specs.Sets.{Run, Gtids, single, before_run, joined}

-- how many runs stand before it, each with a gap between
unfoldable pub runs_before : Gtids → Gtid → ℕ
runs_before [] g = 0
runs_before (r ∷ rs) g = elim (before_run r (single g)) [ true ↦ suc (runs_before rs g) | false ↦ 0 ]

-- a run and those behind it, where it may touch the first of these
unfoldable pub joined_next : Run → Gtids → Gtids
joined_next r [] = r ∷ []
joined_next r (s ∷ rs) = elim (before_run r s) [ true ↦ r ∷ s ∷ rs | false ↦ joined r s ∷ rs ]

-- whether a run begins no later than another one
abbrev pub starts_by : Run → Run → Bool
starts_by a b = if bytes_eq a.source b.source then nat_le a.first b.first else bytes_lt a.source b.source

-- each of the runs begins no later than this one
abbrev pub StartBy : Gtids → Run → Type 0
StartBy [] r = Unit {0}
StartBy (x ∷ xs) r = (starts_by x r ≡ true) × StartBy xs r

-- each of the runs begins no later than those behind
abbrev pub StartBefore : Gtids → Gtids → Type 0
StartBefore xs [] = Unit {0}
StartBefore xs (r ∷ rs) = StartBy xs r

-- runs in the order of their beginnings, which may overlap
abbrev pub AreInOrder : Gtids → Type 0
AreInOrder [] = Unit {0}
AreInOrder (r ∷ rs) = IsRun r × StartBefore (r ∷ []) rs × AreInOrder rs

-- whether all of a run stands before all of another one
abbrev pub precedes : Run → Run → Bool
precedes a b = if bytes_eq a.source b.source then nat_lt a.last b.first else bytes_lt a.source b.source

-- whether a run ends before another one does
abbrev pub ends_first : Run → Run → Bool
ends_first a b = if bytes_eq a.source b.source then nat_lt a.last b.last else bytes_lt a.source b.source

-- how many runs at the front are of this source
abbrev pub runs_of_source : List ℕ → Gtids → ℕ
runs_of_source u [] = 0
runs_of_source u (r ∷ rs) = elim (bytes_eq u r.source) [ true ↦ suc (runs_of_source u rs) | false ↦ 0 ]
