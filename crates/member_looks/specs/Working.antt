-- The results of the places that wait.
use Rattle.std.specs.Prelude.{◌≡◌, ℕ, List, [], ◌∷◌, Option, Some, None}
use Rattle.apply_queue.specs.declared.work.WorkDone.{WorkDone}
use Rattle.group_rules.specs.Events.{Cert}
use Rattle.group_rules.specs.Member.{Member}
use Rattle.group_rules.specs.Queue.{at_place, queue}
use Rattle.group_rules.specs.Script.{body_at}

-- the result of this place, if it is queued
abbrev pub IsResult : Member → ℕ → Option WorkDone → Type 0
IsResult a p None = body_at (at_place (queue a.life a.me.inc) p) ≡ None
IsResult a p (Some w) = (w.place ≡ p) × (body_at (at_place (queue a.life a.me.inc) p) ≡ Some w.body)

-- the result of the first of these, if there is one
abbrev pub IsLeast : Member → List Cert → Option WorkDone → Type 0
IsLeast a [] w = w ≡ None
IsLeast a (c ∷ cs) None = ⊥
IsLeast a (c ∷ cs) (Some w) = IsResult a c.place (Some w)
