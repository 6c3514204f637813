-- What a donor keeps and gives.
-- (MySQL 8.0 Reference Manual, Group Replication: Distributed Recovery.)
use Rattle.std.specs.Prelude.{◌≡◌, ℕ, ◌==◌, Bool, true, false, not, nat_le, nat_lt, Option, Some, None, List, [], ◌∷◌, filter}
use Rattle.std.specs.List.{list_all}
use Rattle.gtid_sets.specs.Sets.{Gtids, has, with_gtid}
use Rattle.gtid_sets.specs.Canonical.{IsNumber}
use Rattle.paxos_forms.specs.declared.recovery.Ask.{Ask}
use Rattle.paxos_forms.specs.declared.recovery.Give.{Give}
use Rattle.paxos_forms.specs.declared.recovery.Given.{Given}
use Rattle.donor_recovery.specs.declared.at_add.AtAdd.{AtAdd}
use Rattle.donor_recovery.specs.declared.donor.GiveFault.{GiveFault}
use Rattle.donor_recovery.specs.declared.donor.GiveFault.TheVariants.{NotKept, Memory}

-- the data of the Adds taken, ascending by place, and the certified transactions
pub record Donating : Type 0 where
  pub adds : List AtAdd
  pub certified : List Given

abbrev pub no_adds : Donating
no_adds = record { adds = []; certified = [] }

-- a number that a GTID may have
abbrev pub HasNumber : Given → Type 0
HasNumber g = IsNumber g.gtid.number

-- none of them is certified above this place
abbrev pub IsAtMost : ℕ → List Given → Type 0
IsAtMost p gs = list_all (λ g. nat_le g.place p) gs ≡ true

-- a certified transaction put among the others, ascending by place
abbrev pub with_given : List Given → Given → List Given
with_given [] g = g ∷ []
with_given (x ∷ xs) g = elim (nat_lt g.place x.place) [ true ↦ g ∷ x ∷ xs | false ↦ x ∷ with_given xs g ]

-- the data of an Add put among the others, ascending by place; at one place the last one stays
abbrev pub with_add : List AtAdd → AtAdd → List AtAdd
with_add [] a = a ∷ []
with_add (x ∷ xs) a = elim (nat_lt a.place x.place) [ true ↦ a ∷ x ∷ xs | false ↦ elim (a.place == x.place) [ true ↦ a ∷ xs | false ↦ x ∷ with_add xs a ] ]

abbrev pub marked : AtAdd → Donating → Donating
marked a d = record d { adds = with_add d.adds a }

-- the data of the Add at this place
abbrev pub at_place : List AtAdd → ℕ → Option AtAdd
at_place [] p = None
at_place (x ∷ xs) p = elim (p == x.place) [ true ↦ Some x | false ↦ at_place xs p ]

-- ---- the Give

abbrev pub is_by : ℕ → Given → Bool
is_by p g = nat_le g.place p

abbrev pub gtids_given : List Given → Gtids
gtids_given [] = []
gtids_given (g ∷ gs) = with_gtid (gtids_given gs) g.gtid

-- what stood at the place of an Add, with what is certified and what is lacking
abbrev pub give_made : ℕ → AtAdd → Gtids → List Given → Give
give_made p a s ts = record { place = p; blocks = a.blocks; last = a.last; items = a.items; told = a.told; certified = s; txns = ts; parts = a.parts }

-- what a joiner that has this set is given of an Add, `known` being the certified transactions at or before it
abbrev pub give_from : AtAdd → List Given → Gtids → Give
give_from a known e = give_made a.place a (gtids_given known) (filter (λ g. not (has e g.gtid)) known)

-- why nothing is given: no data of that place is kept, or memory was refused
abbrev pub IsGiveFault : Donating → Ask → GiveFault → Type 0
IsGiveFault d a (NotKept p) = (p ≡ a.place) × (at_place d.adds a.place ≡ None)
IsGiveFault d a Memory = Unit {0}
