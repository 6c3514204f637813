-- What a history must keep so that its life has the same entries: consecutive places, GTIDs of the group, effects by the view.
use Rattle.std.specs.Prelude.{◌≡◌, suc, Bool, Option, Some, None, List, [], ◌∷◌}
use Rattle.gtid_sets.specs.Canonical.{IsCanonical, IsUuid, IsNumber}
use Rattle.slot_values.specs.declared.value.What.{What}
use Rattle.slot_values.specs.declared.value.What.TheVariants.{Body as Says}
use Rattle.txn_forms.specs.declared.body.Body.{Body}
use Rattle.txn_forms.specs.declared.body.Body.TheVariants.{Txn as Writes, Part as PartOf}
use Rattle.group_rules.specs.declared.marks.Effect.{Effect}
use Rattle.group_rules.specs.declared.marks.Effect.TheVariants.{Positive, Conflict}
use Rattle.group_rules.specs.Events.{Starts, Took, Committed, Restores, Enters, Founds, Life, Setup}
use Rattle.group_rules.specs.Life.{view, taken}
use Rattle.group_rules.specs.Told.{tells}
use Rattle.group_rules.specs.View.{View, effect_in, void_if}
use Rattle.group_laws.specs.Entries as law
use Rattle.group_lives.specs.Given.{IsToldSet, GivenAs}
use Rattle.group_laws.specs.View.{Absent, standing}

-- its sets are canonical
abbrev pub HasSets : Life → Type 0
HasSets [] = Unit {0}
HasSets (Starts x ∷ l) = IsCanonical x.executed × HasSets l
HasSets (Committed g ∷ l) = (IsUuid g.source × IsNumber g.number) × HasSets l
HasSets (_ ∷ l) = HasSets l

-- The effect of what a body says: a transaction has a verdict, with a GTID of the group; of a part it is known whether it is void; of all else the view decides.
abbrev pub IsSaidEffect : Setup → View → What → Option Body → Effect → Type 0
IsSaidEffect s v w (Some (Writes t)) (Positive g) = g.source ≡ s.limits.group
IsSaidEffect s v w (Some (Writes t)) (Conflict g) = Unit {0}
IsSaidEffect s v w (Some (Writes t)) e = ⊥
IsSaidEffect s v w (Some (PartOf p)) e = (b : Bool) × (e ≡ void_if b)
IsSaidEffect s v w b e = (has_effect : Bool) × (e ≡ effect_in v has_effect w b)

-- an Add and a Remove hold no body; whether they have effect is known from the kept list
abbrev pub IsEffect : Setup → View → What → Option Body → Effect → Type 0
IsEffect s v (Says x) b e = IsSaidEffect s v (Says x) b e
IsEffect s v w None e = (has_effect : Bool) × (e ≡ effect_in v has_effect w None)
IsEffect s v w (Some b) e = ⊥

-- A history that takes a list: from the founding, or from a Give that tells of `base`; each entry has the next place, and its effect.
abbrev pub IsTaking : Setup → List law.Placed → Life → Type 0
IsTaking s base [] = ⊥
IsTaking s base (Founds ∷ l) = l ≡ []
IsTaking s base (Took e ∷ l) = ((e.place ≡ suc (taken l)) × IsEffect s (view s l) e.value.what e.holds e.effect) × IsTaking s base l
IsTaking s base (Restores g cs ∷ l) = GivenAs s base g (view s l) (taken l)
IsTaking s base (Enters w ∷ l) = ⊥
IsTaking s base (Starts x ∷ l) = ⊥
IsTaking s base (_ ∷ l) = IsTaking s base l

-- the sets that its members told it are canonical
abbrev pub HasToldSets : Life → Type 0
HasToldSets [] = Unit {0}
HasToldSets (Took e ∷ l) = IsToldSet (tells e.holds) × HasToldSets l
HasToldSets (_ ∷ l) = HasToldSets l

-- ---- a list

-- what is added was never a member
abbrev pub IsNew : Setup → List law.Value → law.Body → Type 0
IsNew s p (law.Joins j) = standing s p j.inc ≡ Absent
IsNew s p b = Unit {0}

abbrev pub AddsNew : Setup → List law.Value → Type 0
AddsNew s [] = Unit {0}
AddsNew s (v ∷ p) = IsNew s p v.body × AddsNew s p
