-- Events.
use Rattle.std.specs.Prelude.{Bool, true, false}
use Rattle.group_rules.specs.Events.{Event, Hears, Ticks, Works, Calls, Operates}

-- nothing is kept of its coming
abbrev pub is_untold : Event → Bool
is_untold (Hears m) = false
is_untold Ticks = false
is_untold (Works p b) = true
is_untold (Calls s r) = true
is_untold (Operates o) = true
