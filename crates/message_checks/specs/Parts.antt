-- The ranges of a Welcome and of a Give, part by part.
use Rattle.std.specs.Prelude.{◌+◌, ◌≤◌, Option, None, List, length}
use Rattle.std.specs.List.{AllByRecursion}
use Rattle.byte_forms.specs.Lists.{IsChain}
use Rattle.name_forms.specs.Ballots.{IsBallot}
use Rattle.name_forms.specs.Incs.{IsIncAfter}
use Rattle.name_forms.specs.OpenParts.{IsOpenAfter}
use Rattle.slot_values.specs.Slots.{last_slot}
use Rattle.slot_values.specs.Spelling.{last_u32}
use Rattle.paxos_forms.specs.declared.recovery.Give.{Give}
use Rattle.paxos_forms.specs.declared.welcome.Welcome.{Welcome}
use Rattle.paxos_forms.specs.Welcomes.{IsConfig, IsMemberAfter, IsPrimary}
use Rattle.paxos_forms.specs.Gives.{IsGivenAfter, IsKeptAfter, IsLastAfter, IsToldAfter}

-- each element is right behind the one before it, and their count fits four bytes
unfoldable pub IsListOf : {A : Type 0} → (Option A → A → Type 0) → List A → Type 0
IsListOf IsNext xs = IsChain IsNext None xs × (length xs ≤ last_u32)

abbrev pub HasSlots : Welcome → Type 0
HasSlots w = (1 ≤ w.slot) × (w.slot ≤ last_slot) × (1 ≤ w.place) × (w.place ≤ w.slot)

abbrev pub HasView : Welcome → Type 0
HasView w = (1 ≤ w.number) × (w.number ≤ w.place + 1) × IsBallot w.promise × IsPrimary w.primary × (w.elected ≤ w.place)

abbrev pub HasMembers : Welcome → Type 0
HasMembers w = IsListOf (IsMemberAfter w.place) w.members

abbrev pub HasEver : Welcome → Type 0
HasEver w = IsListOf IsIncAfter w.ever

abbrev pub HasConfigs : Welcome → Type 0
HasConfigs w = AllByRecursion IsConfig w.configs × (length w.configs ≤ last_u32)

abbrev pub HasPlaces : Give → Type 0
HasPlaces g = (1 ≤ g.place) × (g.place ≤ last_slot) × (g.blocks ≤ g.place)

abbrev pub HasNumbers : Give → Type 0
HasNumbers g = IsListOf IsLastAfter g.last

abbrev pub HasItems : Give → Type 0
HasItems g = IsListOf (IsKeptAfter g.place) g.items

abbrev pub HasTold : Give → Type 0
HasTold g = IsListOf IsToldAfter g.told

abbrev pub HasTxns : Give → Type 0
HasTxns g = IsListOf (IsGivenAfter g.place) g.txns

abbrev pub HasParts : Give → Type 0
HasParts g = IsListOf IsOpenAfter g.parts
