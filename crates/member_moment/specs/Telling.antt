-- What a member tells of itself in a step.
use Rattle.std.specs.Prelude.{Bool, true, false, ◌&&◌, not, List, [], ◌∷◌}
use Rattle.std.specs.List.{list_any}
use Rattle.group_rules.specs.Events.{Cert}
use Rattle.group_rules.specs.Life.{has_give, is_arrival, is_recovering, made, state}
use Rattle.group_rules.specs.Member.{Member}
use Rattle.group_rules.specs.Queue.{pending}

abbrev pub is_none : List Cert → Bool
is_none [] = true
is_none (c ∷ cs) = false

-- it is RECOVERING, has taken up a Give, has made no Online entry, and nothing is pending
abbrev pub is_arriving : Member → Bool
is_arriving a = (is_recovering (state a.life) && (has_give a.life && not (list_any is_arrival (made a.life)))) && is_none (pending a.life)
