-- What a history knows of the list that it takes: the transactions that it holds as certified.
use Rattle.std.specs.Prelude.{◌≡◌, ◌⊎◌, ◌<◌, ◌≤◌, true, false, Some, List, [], ◌∷◌, length}
use Rattle.gr_ids.specs.declared.names.Inc.{Inc}
use Rattle.gtid_sets.specs.Sets.{has}
use Rattle.gtid_sets.specs.Canonical.{IsUuid, IsNumber}
use Rattle.slot_values.specs.declared.value.Joiner.{Joiner}
use Rattle.node_rules.specs.Lists.{In}
use Rattle.group_rules.specs.Events.{Did, Restores, Life, Entry, Cert, Setup}
use Rattle.group_rules.specs.Life.{executed, certs, entry_at, has_give}
use Rattle.group_runs.specs.Runs.{is_founder}
use Rattle.group_order.specs.OneLog.{IsReady}
use Rattle.group_order.proofs.Shapes.{Shape}
use Rattle.group_laws.specs.Lists.{Mem}
use Rattle.group_laws.specs.Entries as law
use Rattle.group_laws.specs.Life as lives
use Rattle.group_laws.specs.World.{IsKeptList}
use Rattle.group_lives.specs.Lives.{life_of}
use Rattle.group_lives.specs.Sound.{IsTaking, AddsNew}

-- One certified transaction, as a history and as a list has it. A Give doesn't tell the number of its value.
pub record Alike (c : Cert) (d : law.Cert) : Type 0 where
  pub place : c.place ≡ d.place
  pub origin : c.id.origin ≡ d.origin
  pub number : (c.id.number ≡ d.id) ⊎ (c.id.number ≡ 0)
  pub gtid : c.gtid ≡ d.gtid
  pub txn : c.txn ≡ d.txn

-- the certified transactions of its list
abbrev pub certified_of : Setup → List law.Placed → Life → List law.Cert
certified_of t base l = law.certified t (lives.marked (life_of base l))

-- no two of them have one GTID
abbrev pub Distinct : Setup → List law.Placed → Life → Type 0
Distinct t base l = (c d : law.Cert) → Mem c (certified_of t base l) → Mem d (certified_of t base l) → c.gtid ≡ d.gtid → c ≡ d

-- newest first, each at a place of its own
abbrev pub Descends : List Cert → Type 0
Descends [] = Unit {0}
Descends (c ∷ cs) = ((d : Cert) → In d cs → d.place < c.place) × Descends cs

-- Those that it holds are those of its list, but for some that it has executed: a Give tells a joiner only what it lacks. Each was given, or it took its entry.
pub record Knows (t : Setup) (base : List law.Placed) (l : Life) : Type 0 where
  pub of_list : (c : Cert) → In c (certs l) → (d : law.Cert) × Mem d (certified_of t base l) × Alike c d
  pub all : (d : law.Cert) → Mem d (certified_of t base l) → ((c : Cert) × In c (certs l) × Alike c d) ⊎ (has (executed l) d.gtid ≡ true)
  pub descends : Descends (certs l)
  pub numbers : (c : Cert) → In c (certs l) → IsUuid c.gtid.source × IsNumber c.gtid.number
  pub entries : (c : Cert) → In c (certs l) → (c.place ≤ length base) ⊎ ((e : Entry) × (entry_at l c.place ≡ Some e))

-- what a joiner is given ends with its own Add
pub record EndsWithAdd (i : Inc) (base : List law.Placed) : Type 0 where
  pub add : law.Placed
  pub rest : List law.Placed
  pub joiner : Joiner
  pub is_base : base ≡ add ∷ rest
  pub joins : add.value.body ≡ law.Joins joiner
  pub inc : joiner.inc ≡ i

-- what is known of a history that takes slots
pub record Sound (t : Setup) (i : Inc) (base : List law.Placed) (l : Life) : Type 0 where
  pub taking : IsTaking t base l
  pub knows : Knows t base l
  pub kept : IsKeptList t (lives.taken (life_of base l))
  pub adds : AddsNew t (lives.taken (life_of base l))
  pub founded : is_founder t i ≡ true → base ≡ []
  pub joined : is_founder t i ≡ false → EndsWithAdd i base

-- at each moment of the history at which it takes slots
abbrev pub SoundAt : Setup → Inc → List law.Placed → Life → Type 0
SoundAt t i base l = IsReady t i l → 0 < length l → Sound t i base l

-- no Give was taken up before
abbrev pub GivenOnce : Did → Life → Type 0
GivenOnce (Restores g cs) l = has_give l ≡ false
GivenOnce d l = Unit {0}

abbrev pub AlwaysSound : Setup → Inc → List law.Placed → Life → Type 0
AlwaysSound t i base [] = Unit {0}
AlwaysSound t i base (d ∷ l) = ((Shape t i (d ∷ l) × SoundAt t i base (d ∷ l)) × GivenOnce d l) × AlwaysSound t i base l
