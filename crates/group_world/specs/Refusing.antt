-- Why steps are refused: which servers a step names, and the faults that refusals are.
use Rattle.std.specs.Prelude.{ℕ, Bool, true, Option, Some, None, List, [], ◌∷◌}
use Rattle.group_rules.specs.declared.steps.Step.{Step}
use Rattle.group_rules.specs.declared.steps.Step.TheVariants.{Session, Once, Operate, Settle, Work, Tick, Start, Stop, Offline, ShowMembers, ShowSlots, ShowConfig, ShowGtids, ShowRows, ShowQueue, ShowCertifier, ShowKept, Finish}
use Rattle.group_rules.specs.Script.{Refusal, Declared, NoServer, AlreadyRunning, NoMessage, MessageLost, NoMember}
use Rattle.report_text.specs.declared.fault.WorldFault.{WorldFault}
use Rattle.report_text.specs.declared.fault.WorldFault.TheVariants.{Declared as NumberTaken, NoServer as ServerMissing, AlreadyRunning as ServerRuns}
use Rattle.report_text.specs.declared.fault.WorldFault.TheVariants.{NoMessage as MessageMissing, MessageLost as MessageGone}
use Rattle.report_text.specs.declared.fault.WorldFault.TheVariants.{NoMember as MemberMissing}

abbrev pub fault_for : Refusal → WorldFault
fault_for Declared = NumberTaken
fault_for NoServer = ServerMissing
fault_for AlreadyRunning = ServerRuns
fault_for (NoMessage k) = MessageMissing k
fault_for (MessageLost k) = MessageGone k
fault_for NoMember = MemberMissing

-- the server at which a step is done
abbrev pub server_of : Step → Option ℕ
server_of (Session n s r) = Some n
server_of (Once n s c) = Some n
server_of (Operate n o) = Some n
server_of (Work n p) = Some n
server_of (Tick n k) = Some n
server_of (Start n via) = Some n
server_of (Stop n) = Some n
server_of (Offline n i r) = Some n
server_of (ShowMembers n) = Some n
server_of (ShowSlots n) = Some n
server_of (ShowConfig n t) = Some n
server_of (ShowGtids n) = Some n
server_of (ShowRows n) = Some n
server_of (ShowQueue n) = Some n
server_of (ShowCertifier n) = Some n
server_of (ShowKept n) = Some n
server_of (Finish n) = Some n
server_of x = None

-- the others that it names
abbrev pub others_of : Step → List ℕ
others_of (Settle ns) = ns
others_of (Start n via) = via ∷ []
others_of x = []

-- the server at which an incarnation has to run
abbrev pub runner_of : Step → Option ℕ
runner_of (Start n via) = Some via
runner_of (Offline n i r) = None
runner_of x = server_of x

-- it passes, if there is one
abbrev pub passes : (ℕ → Bool) → Option ℕ → Bool
passes p None = true
passes p (Some n) = p n
