-- What a node knows by the slots that it has taken. A joiner knows nothing before its Welcome.
use Rattle.std.specs.Prelude.{ℕ, Option, Some, None, List, [], unwrap_or}
use Rattle.node_rules.specs.Names.{Inc}
use Rattle.slot_values.specs.Log.{Turns, incs, last_of, config_of}

abbrev pub members_by : Option Turns → List Inc
members_by None = []
members_by (Some w) = incs w.reading.members

abbrev pub ever_by : Option Turns → List Inc
ever_by None = []
ever_by (Some w) = w.reading.ever

abbrev pub config_by : Option Turns → ℕ → Option (List Inc)
config_by None t = None
config_by (Some w) t = config_of w t

-- a configuration that isn't known counts as empty
abbrev pub config_here : Option Turns → ℕ → List Inc
config_here w t = unwrap_or (config_by w t) []

-- the last kept number of a member, or of one whose Remove was taken here
abbrev pub last_by : Option Turns → Inc → ℕ
last_by None i = 0
last_by (Some w) i = last_of w.reading i
