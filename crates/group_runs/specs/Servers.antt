-- What holds of servers in a run: what had happened before the founding, and the rows that are written while a server doesn't run.
use Rattle.std.specs.Prelude.{◌≡◌, ℕ, true, false, Some, None, List, [], ◌∷◌}
use Rattle.gr_ids.specs.Names.{bytes_eq}
use Rattle.gr_ids.specs.declared.names.Inc.{Inc}
use Rattle.gr_ids.specs.declared.levels.MemberState.TheVariants.{Online}
use Rattle.gtid_sets.specs.Canonical.{IsUuid}
use Rattle.node_rules.specs.Lists.{In}
use Rattle.group_rules.specs.Events.{Founds, Is, Setup, OfflineWrite}
use Rattle.group_rules.specs.World.{Move, Declares, world_after, Past, Does, Writes, Halts, life_in}
use Rattle.group_rules.specs.Legal.{IsPast}
use Rattle.group_runs.specs.Runs.{IsSetup, is_founder, running_in}

-- ---- the founding

-- nothing but the founding happened; servers may have been stopped, which changes nothing
abbrev pub IsFounding : Past → Type 0
IsFounding [] = Unit {0}
IsFounding (Does i Founds ∷ p) = IsFounding p
IsFounding (Does i (Is Online c) ∷ p) = IsFounding p
IsFounding (Does i d ∷ p) = ⊥
IsFounding (Writes n x ∷ p) = ⊥
IsFounding (Halts n ∷ p) = IsFounding p

-- all founders began while nothing else happened
pub record FoundedAt (t : Setup) (w : Past) : Type 0 where
  pub past : Past
  pub earlier : IsPast past w
  pub founding : IsFounding past
  pub begun : (i : Inc) → is_founder t i ≡ true → life_in past i ≡ [] → ⊥

-- ---- offline writes

-- No incarnation of the server runs then, and its UUID isn't the group's.
pub record IsWritten (t : Setup) (p : Past) (n : ℕ) (x : OfflineWrite) : Type 0 where
  pub idle : running_in p n ≡ None
  pub apart : bytes_eq x.gtid.source t.limits.group ≡ false
  pub uuid : IsUuid x.gtid.source

abbrev pub AllWritten : (Past → ℕ → OfflineWrite → Type 0) → Past → Type 0
AllWritten P [] = Unit {0}
AllWritten P (Does i d ∷ p) = AllWritten P p
AllWritten P (Writes n x ∷ p) = P p n x × AllWritten P p
AllWritten P (Halts n ∷ p) = AllWritten P p

-- ---- every run

-- a UUID that is declared has its sixteen bytes
abbrev pub IsMove : Move → Type 0
IsMove (Declares n u v g) = IsUuid u
IsMove m = Unit {0}

pub record OfServers (t : Setup) (w : Past) : Type 0 where
  pub founded : FoundedAt t w
  pub written : AllWritten (IsWritten t) w

abbrev pub EveryRunOfServers : Type 0
EveryRunOfServers = (ms : List Move) (t : Setup) → (world_after ms).setup ≡ Some t → IsSetup t → ((m : Move) → In m ms → IsMove m) → OfServers t (world_after ms).past
