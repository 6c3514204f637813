-- The fields of `Turns` as one state.
use Rattle.slot_values.specs.Turns.{Taken}
use Rattle.slot_values.specs.declared.turns.Turns.TheInside.{Inside}

abbrev pub taken : Inside → Taken
taken w = record {
  turns = record {
    slot = w.slot;
    reading = record { place = w.place; members = w.members.items; ever = w.ever.items; former = w.former.items };
    base = w.base;
    configs = w.configs.items;
  };
  low = w.low;
}
