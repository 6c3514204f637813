-- What is left of a row to be done, after its first act.
use Rattle.std.specs.Prelude.{ℕ, Option, Some, None, [], ◌∷◌}
use Rattle.node_rules.specs.Names.{Value, Vote, Accept}
use Rattle.node_rules.specs.Known.{config_here}
use Rattle.node_rules.specs.Learning.{hear_accepted, settles}
use Rattle.node_rules.specs.Node.{Node, Effect, quiet, also, to_others}
use Rattle.node_rules.specs.Voting.{votes}

-- an acceptance was counted, and decided the slot with this value, or nothing
abbrev pub settled : ℕ → Node → Option Value → Effect
settled t n None = quiet n
settled t n (Some v) = settles n t v

-- the leader votes for what it has put among its proposals, tells it, and counts its own acceptance
abbrev pub casts : Node → Vote → Effect
casts n x = also (record { node = votes n x; sent = to_others n (config_here n.turns x.slot) (Accept x.ballot x.slot x.value); cast = x ∷ []; took = [] }) (hear_accepted n.me x.ballot x.slot)
