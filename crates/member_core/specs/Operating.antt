-- Actions of operators.
use Rattle.std.specs.Prelude.{Some}
use Rattle.name_forms.specs.Incs.{IsInc}
use Rattle.txn_forms.specs.declared.body.Body.{Body}
use Rattle.group_rules.specs.declared.requests.Operator.{Operator}
use Rattle.group_rules.specs.declared.requests.Operator.TheVariants.{SetPrimary, Single as SetSingle, AskDonor}
use Rattle.group_rules.specs.declared.marks.Reply.TheVariants.{NotOnline as IsNotOnline}
use Rattle.group_rules.specs.Events.{Replied}
use Rattle.group_rules.specs.Life.{state}
use Rattle.group_rules.specs.Member.{Member, own_body, push}
use Rattle.group_rules.specs.Steps.{if_online, reply_sent}

-- it names incarnations within their ranges
abbrev pub IsOperator : Operator → Type 0
IsOperator (SetPrimary i) = IsInc i
IsOperator (SetSingle (Some i)) = IsInc i
IsOperator (AskDonor d) = IsInc d
IsOperator o = Unit {0}

-- its state doesn't allow it
abbrev pub refuse : Member → Member
refuse a = push (Replied (IsNotOnline (state a.life))) a

-- a body is sent, if the member is ONLINE, and its value is named
abbrev pub send_body : Body → Member → Member
send_body b a = if_online (reply_sent (own_body b)) a
