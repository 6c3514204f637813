-- The declaration of servers, and the founding of the group.
use Rattle.std.specs.Prelude.{ℕ, List, length, Bool, ◌&&◌, nat_lt, nat_le, Option, Some, None, if◌then◌else◌, codes}
use Rattle.std.specs.Option.{option_map}
use Rattle.std.specs.Str.{bytes_eq}
use Rattle.gr_ids.specs.Uuids.{uuid_of}
use Rattle.primary_election.specs.Texts.{version_of, weight_of}
use Rattle.group_rules.specs.Names.{Mode}
use Rattle.group_rules.specs.declared.steps.Step.{Step}
use Rattle.group_rules.specs.declared.steps.Step.TheVariants.{Server, Block, Found}
use Rattle.script_text.specs.Words.{Text, ◌>>=◌, first_word, four_words}
use Rattle.script_text.specs.Numbers.{first_number, only_number}
use Rattle.script_text.specs.Names.{mode_of}
use Rattle.script_text.specs.Servers.{server_of, all_servers, are_distinct}

-- N UUID VERSION WEIGHT
unfoldable pub declared_of : List Text → Option Step
declared_of ws = do
  (server, uuid, version, weight) ← four_words ws
  server ← server_of server
  uuid ← uuid_of uuid
  version ← version_of version
  weight ← weight_of weight
  Some (Server server uuid version weight)

-- SIZE
unfoldable pub block_of : List Text → Option Step
block_of ws = option_map Block (only_number 1 1000000 ws)

-- 1 to 9 distinct servers
abbrev pub is_founding : List ℕ → Bool
is_founding servers = nat_lt 0 (length servers) && nat_le (length servers) 9 && are_distinct servers

unfoldable pub founders_of : List Text → Option (List ℕ)
founders_of ws = do
  servers ← all_servers ws
  if is_founding servers then Some servers else None

-- UUID MODE, and the words behind them
unfoldable pub first_group : List Text → Option (List ℕ × Mode × List Text)
first_group ws = do
  (uuid, ws) ← first_word ws
  group ← uuid_of uuid
  (mode, ws) ← first_word ws
  mode ← mode_of mode
  Some (group, mode, ws)

-- HORIZON EXPEL MAJORITY, and the words behind them
unfoldable pub first_limits : List Text → Option (ℕ × ℕ × ℕ × List Text)
first_limits ws = do
  (horizon, ws) ← first_number 10 200 ws
  (expel, ws) ← first_number 0 3600 ws
  (majority, ws) ← first_number 0 1000000 ws
  Some (horizon, expel, majority, ws)

-- UUID MODE HORIZON EXPEL MAJORITY N...
unfoldable pub found_of : List Text → Option Step
found_of ws = do
  (group, mode, ws) ← first_group ws
  (horizon, expel, majority, ws) ← first_limits ws
  servers ← founders_of ws
  Some (Found group mode horizon expel majority servers)

-- `server N UUID VERSION WEIGHT`, `block SIZE`, `found UUID MODE HORIZON EXPEL MAJORITY N...`
unfoldable pub setting_of : Text → List Text → Option Step
setting_of name ws =
    if bytes_eq name (codes "server") then declared_of ws
    else if bytes_eq name (codes "block") then block_of ws
    else if bytes_eq name (codes "found") then found_of ws
    else None
