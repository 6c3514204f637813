-- GTID sets as their longest runs: membership and the operations.
use Rattle.std.specs.Prelude.{ℕ, ◌+◌, ◌-◌, Bool, true, false, ◌&&◌, List, [], ◌∷◌, ◌++◌, nat_lt, nat_le, fold, flat_map, if◌then◌else◌}
use Rattle.std.specs.List.{list_any, list_all}
use Rattle.gr_ids.specs.declared.names.Gtid.{Gtid}
use Rattle.gr_ids.specs.Names.{bytes_eq, bytes_lt}
pub use Rattle.gtid_sets.specs.declared.run.Run.{Run}

abbrev pub Gtids : Type 0
Gtids = List Run

abbrev pub in_run : Gtid → Run → Bool
in_run g r = bytes_eq r.source g.source && (nat_le r.first g.number && nat_le g.number r.last)

abbrev pub has : Gtids → Gtid → Bool
has s g = list_any (in_run g) s

-- whether a run stands before another one, with a gap between
abbrev pub before_run : Run → Run → Bool
before_run a b = if bytes_eq a.source b.source then nat_lt (a.last + 1) b.first else bytes_lt a.source b.source

-- one run out of two that touch or overlap
abbrev pub joined : Run → Run → Run
joined a b = record { source = a.source; first = if nat_lt a.first b.first then a.first else b.first; last = if nat_lt a.last b.last then b.last else a.last }

-- a run put into a set
abbrev pub with_run : Gtids → Run → Gtids
with_run [] a = a ∷ []
with_run (r ∷ rs) a = elim (before_run a r) [ true ↦ a ∷ r ∷ rs | false ↦ elim (before_run r a) [ true ↦ r ∷ with_run rs a | false ↦ with_run rs (joined a r) ] ]

abbrev pub single : Gtid → Run
single g = record { source = g.source; first = g.number; last = g.number }

abbrev pub with_gtid : Gtids → Gtid → Gtids
with_gtid s g = with_run s (single g)

-- what either has
abbrev pub union : Gtids → Gtids → Gtids
union a b = fold with_run a b

-- the numbers that two runs have in common: one run or none
abbrev pub common : Run → Run → Gtids
common a b =
    let first = if nat_lt a.first b.first then b.first else a.first in
    let last = if nat_lt a.last b.last then a.last else b.last in
    if bytes_eq a.source b.source && nat_le first last then record { source = a.source; first = first; last = last } ∷ [] else []

-- what both have
abbrev pub meet : Gtids → Gtids → Gtids
meet a b = flat_map (λ r. flat_map (common r) b) a

-- the part of a run below a number, and the part above it
abbrev pub below : Run → ℕ → Gtids
below a n = if nat_lt a.first n then record a { last = if nat_lt a.last n then a.last else n - 1 } ∷ [] else []

abbrev pub above : Run → ℕ → Gtids
above a n = if nat_lt n a.last then record a { first = if nat_lt n a.first then a.first else n + 1 } ∷ [] else []

-- what a run has and another hasn't
abbrev pub cut_out : Run → Run → Gtids
cut_out b a = if bytes_eq a.source b.source then below a b.first ++ above a b.last else a ∷ []

-- what the first has and the second hasn't
abbrev pub minus : Gtids → Gtids → Gtids
minus a [] = a
minus a (b ∷ bs) = minus (flat_map (cut_out b) a) bs

-- whether the second has all that the first has
abbrev pub covers : Run → Run → Bool
covers r q = bytes_eq q.source r.source && nat_le q.first r.first && nat_le r.last q.last

abbrev pub subset : Gtids → Gtids → Bool
subset a b = list_all (λ r. list_any (covers r) b) a

-- how many GTIDs it has
abbrev pub count_of : Gtids → ℕ
count_of [] = 0
count_of (r ∷ rs) = ((r.last + 1) - r.first) + count_of rs
