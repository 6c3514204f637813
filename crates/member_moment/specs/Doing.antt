-- A part of a step that is done: whatever member the moment stood for, it stands for what the rules make of it.
use Rattle.group_rules.specs.Events.{Life}
use Rattle.group_rules.specs.Member.{Member}
use Rattle.member_truth.specs.Growing.{IsPromised}
use Rattle.member_moment.specs.declared.moment.Moment.{Moment}
use Rattle.member_moment.specs.Standing.{Stands}

-- what every run of the group promises to its members holds of the history of this one
abbrev pub IsKept : Member → Type 0
IsKept b = IsPromised b.setup b.me.inc b.life

abbrev pub Does : (Member → Member) → Moment → Moment → Type 0
Does f x y = (base : Life) (a : Member) → IsKept (f a) → Stands base a x → Stands base (f a) y

-- where this is so of the member
abbrev pub DoesIf : (Member → Type 0) → (Member → Member) → Moment → Moment → Type 0
DoesIf P f x y = (base : Life) (a : Member) → P a → IsKept (f a) → Stands base a x → Stands base (f a) y
