-- A member's history as a life of which the laws of the group speak, and what happened in the world as a run of them: what the laws speak of stays, all
-- else goes.
use Rattle.std.specs.Prelude.{ℕ, suc, true, false, Option, Some, List, [], ◌∷◌, ◌++◌, map}
use Rattle.gr_ids.specs.declared.names.Inc.{Inc}
use Rattle.gr_ids.specs.declared.levels.Level.{Level}
use Rattle.gr_ids.specs.declared.levels.MemberState.TheVariants.{Error}
use Rattle.slot_values.specs.declared.value.What.{What}
use Rattle.slot_values.specs.declared.value.What.TheVariants.{Add, Remove, Body as Says}
use Rattle.slot_values.specs.declared.value.Value.{Value}
use Rattle.txn_forms.specs.declared.body.Body.{Body}
use Rattle.txn_forms.specs.declared.body.Body.TheVariants.{Txn as Writes, Prepared, Executed, Online as Arrives, Mode as Switches, Primary as Appoints}
use Rattle.group_rules.specs.declared.answers.Answer.TheVariants.{Committed as CommittedAs}
use Rattle.group_rules.specs.declared.marks.Effect.{Effect}
use Rattle.group_rules.specs.declared.marks.Effect.TheVariants.{Plain, Positive, Conflict}
use Rattle.group_rules.specs.Events.{Did, Starts, Made, Took, Done, Committed, Is, Answered, Begun, Changed, Called, AsksCommit, Ends, Restores, Life, Entry, Cert}
use Rattle.group_rules.specs.Life.{last_made}
use Rattle.group_rules.specs.Holds.{has_sync}
use Rattle.group_rules.specs.World.{Past, Does, Writes as WritesOffline, Halts, life_in}
use Rattle.group_laws.specs.Entries as law
use Rattle.group_laws.specs.Life as lives
use Rattle.group_laws.specs.World as run

-- ---- values and entries

-- what a body does
abbrev pub does_body : Option Body → law.Body
does_body (Some (Writes t)) = law.Write t
does_body (Some (Prepared g)) = law.Prepared g
does_body (Some (Executed s)) = law.Executed s
does_body (Some (Arrives s)) = law.Online s
does_body (Some (Switches m)) = law.Switches m
does_body (Some (Appoints i)) = law.Appoints i
does_body b = law.Plain

-- what an entry does, by its effect and what its place holds
abbrev pub does_entry : What → Effect → Option Body → law.Body
does_entry (Add j) Plain b = law.Joins j
does_entry (Remove i) Plain b = law.Leaves i
does_entry (Says x) e b = does_body b
does_entry w e b = law.Plain

abbrev pub outcome_of : Effect → law.Outcome
outcome_of (Positive g) = law.Positive g.number
outcome_of (Conflict g) = law.Conflict g
outcome_of e = law.NoTxn

abbrev pub placed : Entry → law.Placed
placed e = record { value = record { origin = e.value.id.origin; number = e.value.id.number; body = does_entry e.value.what e.effect e.holds }; outcome = outcome_of e.effect }

-- an own value is made as what its place is to hold
abbrev pub made_as : Value → Option Body → law.Value
made_as v b = record { origin = v.id.origin; number = v.id.number; body = does_body b }

abbrev pub law_cert : Cert → law.Cert
law_cert c = record { place = c.place; origin = c.id.origin; id = c.id.number; gtid = c.gtid; txn = c.txn }

-- ---- a history

-- the number of the Sync of a begin call, which is the next own value
abbrev pub sync_number : Level → Life → ℕ
sync_number v l = elim (has_sync v) [ true ↦ suc (last_made l) | false ↦ 0 ]

-- the session that asked its commit last
abbrev pub asking : Life → ℕ
asking [] = 0
asking (AsksCommit s i ∷ l) = s
asking (_ ∷ l) = asking l

-- A commit is asked where the value with its transaction is made, which is after its other parts.
abbrev pub made_did : Value → Option Body → Life → List lives.Did
made_did v (Some (Writes t)) l = lives.Made (made_as v (Some (Writes t))) ∷ lives.Asked (asking l) ∷ []
made_did v b l = lives.Made (made_as v b) ∷ []

-- `base` is the list up to a joiner's Add, of which its Give tells
abbrev pub did_of : List law.Placed → Did → Life → List lives.Did
did_of base (Starts x) l = lives.Started x.executed ∷ []
did_of base (Restores g cs) l = lives.Given base ∷ []
did_of base (Made v b) l = made_did v b l
did_of base (Took e) l = lives.Took (placed e) ∷ []
did_of base (Done p) l = lives.Finished p ∷ []
did_of base (Committed g) l = lives.Committed g ∷ []
did_of base (Called s v w) l = lives.Called s v (sync_number v l) ∷ []
did_of base (Begun s e y) l = lives.Begun s ∷ []
did_of base (Changed s c) l = lives.Changed s c ∷ []
did_of base (Ends s) l = lives.Ended s ∷ []
did_of base (Answered s (CommittedAs g)) l = lives.Acked g ∷ []
did_of base (Is Error c) l = lives.Fell ∷ []
did_of base d l = []

abbrev pub life_of : List law.Placed → Life → lives.Life
life_of base [] = []
life_of base (d ∷ l) = did_of base d l ++ life_of base l

-- ---- the world

abbrev pub all_did : Inc → List lives.Did → run.World
all_did i ds = map (λ d. run.Does i d) ds

-- `base` is for each incarnation the list up to its Add
abbrev pub run_of : (Inc → List law.Placed) → Past → run.World
run_of base [] = []
run_of base (Does i d ∷ p) = all_did i (did_of (base i) d (life_in p i)) ++ run_of base p
run_of base (WritesOffline n x ∷ p) = run.Writes n x.gtid x.item x.row ∷ run_of base p
run_of base (Halts n ∷ p) = run_of base p
