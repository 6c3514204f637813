-- The ranges of what a step of a script holds.
use Rattle.std.specs.Prelude.{◌≡◌, ℕ, ◌-◌, ◌^◌, ◌≤◌, true, List, length, Option, Some, None, IfSome}
use Rattle.std.specs.List.{AllByRecursion}
use Rattle.key_items.specs.Spelling.{IsItem}
use Rattle.gr_ids.specs.declared.names.Inc.{Inc}
use Rattle.key_items.specs.declared.change.Change.{Change}
use Rattle.key_items.specs.declared.change.ChangeKind.{ChangeKind}
use Rattle.key_items.specs.declared.change.ChangeKind.TheVariants.{Insert as Inserts, Update as Updates, Delete as Deletes}
use Rattle.group_rules.specs.declared.requests.Operator.{Operator}
use Rattle.group_rules.specs.declared.requests.Operator.TheVariants.{SetPrimary, Single, AskDonor}
use Rattle.group_rules.specs.declared.requests.Request.{Request}
use Rattle.group_rules.specs.declared.requests.Request.TheVariants.{Begin, Get, Insert, Update, Delete, Commit, Rollback}
use Rattle.group_rules.specs.declared.steps.Step.{Step}
use Rattle.group_rules.specs.declared.steps.Step.TheVariants.{Server, Block, Found, Session, Once, Operate, Deliver, Lose, Settle, Work, Drain, Tick, Start, Stop, Offline}
use Rattle.group_rules.specs.declared.steps.Step.TheVariants.{ShowMembers, ShowSlots, ShowConfig, ShowGtids, ShowRows, ShowQueue, ShowCertifier, ShowKept, ShowWire, Finish}
use Rattle.script_text.specs.declared.line.Line.{Line}
use Rattle.script_text.specs.Servers.{are_distinct}

abbrev pub IsIn : ℕ → ℕ → ℕ → Type 0
IsIn low high n = (low ≤ n) × (n ≤ high)

abbrev pub IsServer : ℕ → Type 0
IsServer n = IsIn 1 32 n

abbrev pub AreServers : List ℕ → Type 0
AreServers ns = AllByRecursion IsServer ns

abbrev pub IsNamed : Inc → Type 0
IsNamed i = IsServer i.server × IsIn 1 (2 ^ 32 - 1) i.start

abbrev pub IsValue : List ℕ → Type 0
IsValue v = IsIn 1 60000 (length v)

-- of a founding: HORIZON, EXPEL, MAJORITY and the servers
pub record IsFounding (h e q : ℕ) (ns : List ℕ) : Type 0 where
  pub horizon : IsIn 10 200 h
  pub expel : e ≤ 3600
  pub majority : q ≤ 1000000
  pub count : IsIn 1 9 (length ns)
  pub distinct : are_distinct ns ≡ true
  pub servers : AreServers ns

abbrev pub IsRequest : Request → Type 0
IsRequest (Begin level wait) = IsIn 1 1000000 wait
IsRequest (Get i) = IsItem i
IsRequest (Insert i v) = IsItem i × IsValue v
IsRequest (Update i v) = IsItem i × IsValue v
IsRequest (Delete i) = IsItem i
IsRequest Commit = Unit {0}
IsRequest Rollback = Unit {0}

abbrev pub IsChangeKind : ChangeKind → Type 0
IsChangeKind (Inserts v) = IsValue v
IsChangeKind (Updates v) = IsValue v
IsChangeKind Deletes = Unit {0}

abbrev pub IsChange : Change → Type 0
IsChange c = IsItem c.item × IsChangeKind c.what

abbrev pub IsOperator : Operator → Type 0
IsOperator (SetPrimary i) = IsNamed i
IsOperator (Single (Some i)) = IsNamed i
IsOperator (AskDonor i) = IsNamed i
IsOperator o = Unit {0}

abbrev pub IsPlace : Option ℕ → Type 0
IsPlace None = Unit {0}
IsPlace (Some p) = 1 ≤ p

-- the session of `once` on line n is 1,000,000,000 + n
unfoldable pub IsStep : Step → Type 0
IsStep (Server n u v g) = IsServer n × (g ≤ 100)
IsStep (Block k) = IsIn 1 1000000 k
IsStep (Found g m h e q ns) = IsFounding h e q ns
IsStep (Session n s r) = IsServer n × IsIn 1 999999999 s × IsRequest r
IsStep (Once n s c) = IsServer n × IsIn 1000000001 1001000000 s × IsChange c
IsStep (Operate n o) = IsServer n × IsOperator o
IsStep (Deliver k) = 1 ≤ k
IsStep (Lose k) = 1 ≤ k
IsStep (Settle ns) = AreServers ns
IsStep (Work n p) = IsServer n × IsPlace p
IsStep Drain = Unit {0}
IsStep (Tick n k) = IsServer n × IsIn 1 10000 k
IsStep (Start n via) = IsServer n × IsServer via
IsStep (Stop n) = IsServer n
IsStep (Offline n i v) = IsServer n × IsItem i × IsValue v
IsStep (ShowMembers n) = IsServer n
IsStep (ShowSlots n) = IsServer n
IsStep (ShowConfig n t) = IsServer n × (1 ≤ t)
IsStep (ShowGtids n) = IsServer n
IsStep (ShowRows n) = IsServer n
IsStep (ShowQueue n) = IsServer n
IsStep (ShowCertifier n) = IsServer n
IsStep (ShowKept n) = IsServer n
IsStep ShowWire = Unit {0}
IsStep (Finish n) = IsServer n

-- so is that of a line; a comment has none
abbrev pub IsInRange : Line → Type 0
IsInRange l = IfSome l.step IsStep
