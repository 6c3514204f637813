-- The history of a list of events is lawful, and each lawful history is that of its events.
use Rattle.std.proofs.Common.{◌≡◌, List, [], ◌∷◌, refl}
use Rattle.group_rules.specs.Events.{Event}
use Rattle.group_rules.specs.Member.{Member}
use Rattle.group_rules.specs.Histories.{History, turn_of, after, IsLawful, history_of, events}

pub is_lawful : (a : Member) (es : List Event) → IsLawful a (history_of a es)
is_lawful a [] = tt
is_lawful a (e ∷ es) = (refl, is_lawful a es)

pub is_the_one : (a : Member) (h : History) → IsLawful a h → h ≡ history_of a (events h)
is_the_one a [] w = refl
is_the_one a (t ∷ h) w = go (history_of a (events h)) (is_the_one a h w.1)
  where
    go : (k : History) → h ≡ k → t ∷ h ≡ turn_of (after a k) t.event ∷ k
    go k e = rw⁻¹ e (λ i. w.0 i ∷ h)
