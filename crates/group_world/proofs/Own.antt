-- An event that is no message, as a move.
use Rattle.std.proofs.Common.{◌≡◌, ℕ, false, refl}
use Rattle.group_rules.specs.Events.{Event, Hears, Ticks, Works, Calls, Operates}
use Rattle.group_rules.specs.World.{Happens, World, move}
use Rattle.group_world.specs.Events.{IsMoveOf, is_heard}

pub happens : (n : ℕ) (e : Event) (w : World) → is_heard e ≡ false → IsMoveOf (Happens n e) n e w
unfolding move
happens n (Hears m) w h = absurd (cc h)
happens n Ticks w h = record { allowed = tt; is_it = refl }
happens n (Works p b) w h = record { allowed = tt; is_it = refl }
happens n (Calls s r) w h = record { allowed = tt; is_it = refl }
happens n (Operates o) w h = record { allowed = tt; is_it = refl }
