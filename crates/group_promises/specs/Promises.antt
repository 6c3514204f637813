-- What every run of the group promises to each of its members.
use Rattle.std.specs.Prelude.{◌≡◌, ◌++◌, ℕ, false, Some, List}
use Rattle.gr_ids.specs.Names.{bytes_eq}
use Rattle.gr_ids.specs.declared.names.Inc.{Inc}
use Rattle.node_rules.specs.Lists.{In}
use Rattle.group_rules.specs.Events.{Cert, Life, Setup, Stored}
use Rattle.group_rules.specs.Legal.{IsPast}
use Rattle.group_rules.specs.World.{Past, Move, world_after, life_in, dids}
use Rattle.group_runs.specs.Runs.{IsSetup, stored_in}
use Rattle.group_runs.specs.Servers.{IsMove}
use Rattle.group_legal.specs.Ranges.{HasSmallNumbers}
use Rattle.group_legal.specs.OwnRanges.{MadeInRange}
use Rattle.member_truth.specs.Truth.{IsTrue}
use Rattle.member_truth.specs.Growing.{IsPromised}

-- at each time up to which what is made and numbered stayed within the ranges of its forms, each history is true
abbrev pub EveryHistoryIsTrue : Type 0
EveryHistoryIsTrue = (ms : List Move) (t : Setup) → (world_after ms).setup ≡ Some t → IsSetup t → ((m : Move) → In m ms → IsMove m)
    → (p : Past) → IsPast p (world_after ms).past → HasSmallNumbers p → MadeInRange p → (i : Inc) → IsTrue t i (life_in p i)

-- What an incarnation does in a step is promised to be true, as long as its own history stays within its ranges, where all that had happened before it did.
abbrev pub EveryStepIsPromised : Type 0
EveryStepIsPromised = (ms : List Move) (t : Setup) → (world_after ms).setup ≡ Some t → IsSetup t → ((m : Move) → In m ms → IsMove m)
    → (q : Past) (i : Inc) (more : Life) → IsPast (dids i more ++ q) (world_after ms).past → HasSmallNumbers q → MadeInRange q → IsPromised t i (more ++ life_in q i)

-- ---- servers

-- no transaction that was committed there has a GTID of this UUID
abbrev pub IsApart : List ℕ → Stored → Type 0
IsApart u y = (c : Cert) → In c y.committed → bytes_eq u c.gtid.source ≡ false

-- each server commits under the group's UUID alone, which isn't its own
abbrev pub ServersCommitForTheGroup : Type 0
ServersCommitForTheGroup = (ms : List Move) (t : Setup) → (world_after ms).setup ≡ Some t → IsSetup t → ((m : Move) → In m ms → IsMove m)
    → HasSmallNumbers (world_after ms).past → MadeInRange (world_after ms).past → (n : ℕ) (u : List ℕ)
    → bytes_eq u t.limits.group ≡ false → IsApart u (stored_in (world_after ms).past n)
