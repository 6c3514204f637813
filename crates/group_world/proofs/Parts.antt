-- Parts of a step, one after another, and under another name.
use Rattle.std.proofs.Common.{◌≡◌, sym, subst}
use Rattle.group_rules.specs.Script.{Play}
use Rattle.world_wire.specs.declared.fault.WireFault.{WireFault}
use Rattle.group_world.specs.Standing.{Along, Closes, Ends, Goes}
use Rattle.group_world.specs.declared.stage.Stage.{Stage}
use Rattle.group_world.proofs.Closing.{Stays, closes_on}

-- for the plays that the world stands for the two are the same
abbrev pub SameAt : (Play → Play) → (Play → Play) → Stage → Type 0
SameAt f g x = (y : Play) → Along y x → f y ≡ g y

pub goes_as : (f g : Play → Play) (x z : Stage) → SameAt f g x → Goes g x z → Goes f x z
goes_as f g x z e h y a = subst (λ p. Along p z) (sym (e y a)) (h y a)

pub ends_as : (f g : Play → Play) (x : Stage) (c : WireFault) → SameAt f g x → Ends g x c → Ends f x c
ends_as f g x c e h y a = subst (λ p. Closes c p) (sym (e y a)) (h y a)

-- the first is done and the second isn't
pub then_ends : (f g : Play → Play) (x m : Stage) (c : WireFault) → Goes f x m → Ends g m c → Ends (λ y. g (f y)) x c
then_ends f g x m c p q y a = q (f y) (p y a)

-- the first isn't done
pub ends_then : (f g : Play → Play) (x : Stage) (c : WireFault) → Stays g → Ends f x c → Ends (λ y. g (f y)) x c
ends_then f g x c s p y a = closes_on g s c (f y) (p y a)
