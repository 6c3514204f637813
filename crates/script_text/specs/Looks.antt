-- The looks.
use Rattle.std.specs.Prelude.{ℕ, ◌-◌, ◌^◌, List, Option, Some, None, if◌then◌else◌, codes}
use Rattle.std.specs.Str.{bytes_eq}
use Rattle.group_rules.specs.declared.steps.Step.{Step}
use Rattle.group_rules.specs.declared.steps.Step.TheVariants.{ShowMembers, ShowSlots, ShowConfig, ShowGtids, ShowRows, ShowQueue}
use Rattle.group_rules.specs.declared.steps.Step.TheVariants.{ShowCertifier, ShowKept, ShowWire}
use Rattle.script_text.specs.Words.{Text, ◌>>=◌, first_word, no_words}
use Rattle.script_text.specs.Numbers.{only_number}
use Rattle.script_text.specs.Servers.{first_server, only_server}

-- N T
unfoldable pub config_of : List Text → Option Step
config_of ws = do
  (server, args) ← first_server ws
  slot ← only_number 1 (2 ^ 64 - 1) args
  Some (ShowConfig server slot)

-- a look at a server: `members`, `slots`, `gtids`, `rows`, `queue`, `certifier`, `kept`
unfoldable pub at_server : Text → ℕ → Option Step
at_server name server =
    if bytes_eq name (codes "members") then Some (ShowMembers server)
    else if bytes_eq name (codes "slots") then Some (ShowSlots server)
    else if bytes_eq name (codes "gtids") then Some (ShowGtids server)
    else if bytes_eq name (codes "rows") then Some (ShowRows server)
    else if bytes_eq name (codes "queue") then Some (ShowQueue server)
    else if bytes_eq name (codes "certifier") then Some (ShowCertifier server)
    else if bytes_eq name (codes "kept") then Some (ShowKept server)
    else None

-- `config N T`, `wire`, or a look at a server and N
unfoldable pub shown_of : Text → List Text → Option Step
shown_of name ws =
    if bytes_eq name (codes "config") then config_of ws
    else if bytes_eq name (codes "wire") then no_words ShowWire ws
    else only_server ws >>= at_server name

-- `show` and what to look at
unfoldable pub look_of : Text → List Text → Option Step
look_of name ws = if bytes_eq name (codes "show") then (first_word ws >>= (λ (what, args). shown_of what args)) else None
