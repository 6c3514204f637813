-- The state of the kept list as code keeps it, and what a joiner is told of it.
use Rattle.std.specs.Prelude.{◌≡◌, ℕ, ◌+◌, ◌-◌, ◌<◌, ◌≤◌, min, max, nat_le, Option, Some, None, List, [], drop, length, slice_get, if◌then◌else◌}
use Rattle.gr_ids.specs.declared.names.Inc.{Inc}
use Rattle.slot_values.specs.Log.{Turns, incs, config_of, forget_configs}
pub use Rattle.slot_values.specs.declared.turns_at.TurnsAt.{TurnsAt}

-- the slots that were taken, and the configurations but for those of slots below `low`, which are forgotten
pub record Taken : Type 0 where
  pub turns : Turns
  pub low : ℕ

abbrev pub known_config : Taken → ℕ → Option (List Inc)
known_config w t = if nat_le w.low t then config_of w.turns t else None

-- The configurations of slots below k are forgotten. Those of slots not yet taken are still told to a joiner.
abbrev pub forgotten : ℕ → Taken → Taken
forgotten k w = record { turns = forget_configs (min k (w.turns.slot + 1)) w.turns; low = max k w.low }

-- what a joiner is told that was added in the last slot: the members after each of the last H slots among it
abbrev pub told : Turns → TurnsAt
told w = record { slot = w.slot; place = w.reading.place; last = w.reading.members; ever = w.reading.ever; configs = drop (w.slot - w.base) w.configs }

-- the slots after that one, taken from there; the removed members aren't told
abbrev pub resumed : TurnsAt → Turns
resumed x = record {
  slot = x.slot;
  reading = record { place = x.place; members = x.last; ever = x.ever; former = [] };
  base = x.slot;
  configs = x.configs;
}

-- A place for each slot at most; the last configuration is that of the members, and rules a slot not yet taken.
pub record HoldsTogether (w : Turns) : Type 0 where
  pub places : w.reading.place ≤ w.slot
  pub begins : w.base ≤ w.slot
  pub reaches : w.slot < w.base + length w.configs
  pub latest : slice_get w.configs (length w.configs - 1) ≡ Some (incs w.reading.members)
