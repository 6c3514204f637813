-- What happens to messages, workers, clocks and servers.
use Rattle.std.specs.Prelude.{ℕ, ◌-◌, ◌^◌, List, Option, Some, None, unwrap_or, if◌then◌else◌, codes}
use Rattle.std.specs.Option.{option_map}
use Rattle.std.specs.Str.{bytes_eq}
use Rattle.group_rules.specs.declared.steps.Step.{Step}
use Rattle.group_rules.specs.declared.steps.Step.TheVariants.{Deliver, Lose, Settle, Work, Drain, Tick, Start, Stop, Offline}
use Rattle.script_text.specs.Words.{Text, ◌>>=◌, no_words}
use Rattle.script_text.specs.Numbers.{only_number, number_or_none}
use Rattle.script_text.specs.Servers.{first_server, only_server, all_servers}
use Rattle.script_text.specs.Rows.{row_of}

-- a count from 1
abbrev pub only_count : List Text → Option ℕ
only_count ws = only_number 1 (2 ^ 64 - 1) ws

-- `deliver K`, `lose K`, `settle`, `settle N...`
unfoldable pub wire_of : Text → List Text → Option Step
wire_of name ws =
    if bytes_eq name (codes "deliver") then option_map Deliver (only_count ws)
    else if bytes_eq name (codes "lose") then option_map Lose (only_count ws)
    else if bytes_eq name (codes "settle") then option_map Settle (all_servers ws)
    else None

-- N, N P
unfoldable pub worked_of : List Text → Option Step
worked_of ws = do
  (server, args) ← first_server ws
  place ← number_or_none 1 (2 ^ 64 - 1) args
  Some (Work server place)

-- N, N COUNT
unfoldable pub ticked_of : List Text → Option Step
ticked_of ws = do
  (server, args) ← first_server ws
  count ← number_or_none 1 10000 args
  Some (Tick server (unwrap_or count 1))

-- `work N`, `work N P`, `drain`, `tick N`, `tick N COUNT`
unfoldable pub pace_of : Text → List Text → Option Step
pace_of name ws =
    if bytes_eq name (codes "work") then worked_of ws
    else if bytes_eq name (codes "drain") then no_words Drain ws
    else if bytes_eq name (codes "tick") then ticked_of ws
    else None

-- N VIA
unfoldable pub started_of : List Text → Option Step
started_of ws = do
  (server, args) ← first_server ws
  via ← only_server args
  Some (Start server via)

-- N TABLE KEY VALUE
unfoldable pub offline_of : List Text → Option Step
offline_of ws = do
  (server, args) ← first_server ws
  row ← row_of args
  Some (Offline server row.item row.value)

-- `start N VIA`, `stop N`, `offline N TABLE KEY VALUE`
unfoldable pub power_of : Text → List Text → Option Step
power_of name ws =
    if bytes_eq name (codes "start") then started_of ws
    else if bytes_eq name (codes "stop") then option_map Stop (only_server ws)
    else if bytes_eq name (codes "offline") then offline_of ws
    else None
