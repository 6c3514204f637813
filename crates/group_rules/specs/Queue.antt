-- The queue: the certified transactions that wait for their workers, and which of them are done.
use Rattle.std.specs.Prelude.{ℕ, Bool, true, false, ◌||◌, not, Option, List, [], ◌∷◌, reverse, nat_lt, ◌==◌, filter}
use Rattle.std.specs.List.{list_all, find}
use Rattle.gr_ids.specs.Names.{inc_eq}
use Rattle.gtid_sets.specs.Sets.{Gtids, has}
use Rattle.group_rules.specs.Names.{Inc}
use Rattle.group_rules.specs.Events.{Done, Life, Cert}
use Rattle.group_rules.specs.Life.{state, is_error, executed, certs}

-- a worker's result made the place done
abbrev pub is_done : Life → ℕ → Bool
is_done [] p = false
is_done (Done q ∷ l) p = elim (q == p) [ true ↦ true | false ↦ is_done l p ]
is_done (_ ∷ l) p = is_done l p

abbrev pub is_own : Inc → Cert → Bool
is_own me c = inc_eq c.id.origin me

-- the certified transactions that it has taken or was given and hasn't committed, by ascending place
abbrev pub pending : Life → List Cert
pending l = let e = executed l in filter (λ c. not (has e c.gtid)) (reverse (certs l))

-- the queue: those of other origins; in ERROR it is empty
abbrev pub queue : Life → Inc → List Cert
queue l me = elim (is_error (state l)) [ true ↦ [] | false ↦ filter (λ c. not (is_own me c)) (pending l) ]

abbrev pub at_place : List Cert → ℕ → Option Cert
at_place cs p = find (λ c. c.place == p) cs

-- those of them that aren't done
abbrev pub waiting : Life → List Cert → List Cert
waiting l cs = filter (λ c. not (is_done l c.place)) cs

-- of those, all below this place are in the set
abbrev pub all_below : Gtids → List Cert → ℕ → Bool
all_below e cs p = list_all (λ c. not (nat_lt c.place p) || has e c.gtid) cs
