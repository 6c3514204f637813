-- The actions of operators.
use Rattle.std.specs.Prelude.{List, Option, Some, None, if◌then◌else◌, codes}
use Rattle.std.specs.Option.{option_map}
use Rattle.std.specs.Str.{bytes_eq}
use Rattle.group_rules.specs.declared.requests.Operator.{Operator}
use Rattle.group_rules.specs.declared.requests.Operator.TheVariants.{Campaign, Tell, Leave, SetPrimary, Single, Multi, AskDonor, DonorFailed}
use Rattle.group_rules.specs.declared.steps.Step.{Step}
use Rattle.group_rules.specs.declared.steps.Step.TheVariants.{Operate}
use Rattle.script_text.specs.Words.{Text, ◌>>=◌, ◌<|>◌, no_words}
use Rattle.script_text.specs.Names.{only_inc, inc_or_none}
use Rattle.script_text.specs.Servers.{first_server}

-- `campaign`, `tell`, `leave`, `primary INC`, `single`, `single INC`, `multi`
unfoldable pub action_of : Text → List Text → Option Operator
action_of name ws =
    if bytes_eq name (codes "campaign") then no_words Campaign ws
    else if bytes_eq name (codes "tell") then no_words Tell ws
    else if bytes_eq name (codes "leave") then no_words Leave ws
    else if bytes_eq name (codes "primary") then option_map SetPrimary (only_inc ws)
    else if bytes_eq name (codes "single") then option_map Single (inc_or_none ws)
    else if bytes_eq name (codes "multi") then no_words Multi ws
    else None

-- `donor INC`, `nodonor`
unfoldable pub donor_of : Text → List Text → Option Operator
donor_of name ws =
    if bytes_eq name (codes "donor") then option_map AskDonor (only_inc ws)
    else if bytes_eq name (codes "nodonor") then no_words DonorFailed ws
    else None

-- an action: its name, N, and the rest of the action
unfoldable pub operator_of : Text → List Text → Option Step
operator_of name ws = do
  (server, args) ← first_server ws
  what ← action_of name args <|> donor_of name args
  Some (Operate server what)
