-- The history of one incarnation of a run, taken by itself: each thing in it is allowed by the history before it.
use Rattle.std.specs.Prelude.{◌≡◌, ◌⊎◌, ◌<◌, true, false, [], ◌∷◌, length}
use Rattle.gr_ids.specs.declared.names.Inc.{Inc}
use Rattle.group_rules.specs.Events.{Did, Founds, Starts, Came, Is, Event, Hears, Life, Setup}
use Rattle.group_bridge.specs.Left.{IsAfterAll}
use Rattle.group_bridge.specs.Moves.{IsAllowed}
use Rattle.group_runs.specs.Runs.{is_founder, IsFirst}

-- it has its first state, and nothing that comes with what it took last is missing
pub record GoesOn (i : Inc) (d : Did) (l : Life) : Type 0 where
  pub begun : 1 < length l
  pub settled : IsAfterAll i d l

-- the rules allow it, in the step for some event
pub record ByTests (t : Setup) (i : Inc) (d : Did) (l : Life) : Type 0 where
  pub goes_on : GoesOn i d l
  pub event : Event
  pub allowed : IsAllowed event t i d l

abbrev pub LivedDid : Setup → Inc → Did → Life → Type 0
LivedDid t i Founds l = (l ≡ []) × (is_founder t i ≡ true)
LivedDid t i (Starts x) l = (l ≡ []) × (is_founder t i ≡ false)
LivedDid t i (Came (Hears m)) l = GoesOn i (Came (Hears m)) l
LivedDid t i (Is x c) l = IsFirst l x ⊎ ByTests t i (Is x c) l
LivedDid t i d l = ByTests t i d l

abbrev pub Lived : Setup → Inc → Life → Type 0
Lived t i [] = Unit {0}
Lived t i (d ∷ l) = LivedDid t i d l × Lived t i l
