-- A member at a moment: its node, its history, and what its step has sent. Acts change it, one after another.
use Rattle.std.specs.Prelude.{ℕ, suc, true, false, Option, Some, None, List, [], ◌∷◌, ◌++◌}
use Rattle.gr_ids.specs.Names.{id_eq}
use Rattle.group_rules.specs.Names.{Inc, ValueId, Joiner, What, Says, Value, Body, Message, Wire, Error, Cause, Answer, MemberLeft, Undecided, NotAcknowledged}
use Rattle.txn_forms.specs.Bodies.{body_bytes}
use Rattle.node_rules.specs.declared.event.PaxosEvent.{PaxosEvent}
use Rattle.node_rules.specs.declared.event.PaxosEvent.TheVariants.{Own}
use Rattle.node_rules.specs.Node.{Node, Effect, message}
use Rattle.node_rules.specs.Step.{node_step}
use Rattle.group_rules.specs.Events.{Did, Made, Is, Answered, Ends, Life, Setup, Cert}
use Rattle.group_rules.specs.Life.{last_made}
use Rattle.group_rules.specs.Queue.{pending}
use Rattle.group_rules.specs.Sessions.{Free, Holding, Active, Asking, phase, sessions}

-- `contact` is the incarnation to which a joiner sends its Add.
pub record Member : Type 0 where
  pub setup : Setup
  pub me : Joiner
  pub contact : Inc
  pub node : Node
  pub life : Life
  pub sent : List Message

-- one thing more in its history
abbrev pub push : Did → Member → Member
push d a = record a { life = d ∷ a.life }

-- an act of its node
abbrev pub by_node : (Node → Effect) → Member → Member
by_node f a = let e : Effect = f a.node in record a { node = e.node; sent = a.sent ++ e.sent }

-- an event of its node
abbrev pub at_node : PaxosEvent → Member → Member
at_node e a = by_node (node_step e) a

abbrev pub send : Inc → Wire → Member → Member
send i x a = record a { sent = a.sent ++ message a.node i x ∷ [] }

-- ---- own values

-- the identity of the next own value
abbrev pub next_id : Member → ValueId
next_id a = record { origin = a.me.inc; number = suc (last_made a.life) }

-- a new own value; `holds` is what its place is to hold
abbrev pub own : What → Option Body → Member → Member
own w holds a = let v : Value = record { id = next_id a; what = w } in at_node (Own v) (push (Made v holds) a)

abbrev pub own_body : Body → Member → Member
own_body b a = own (Says (body_bytes b)) (Some b) a

-- ---- answers

abbrev pub answer : ℕ → Answer → Member → Member
answer s x a = push (Answered s x) a

-- the answer that ends a transaction or a hold
abbrev pub last_answer : ℕ → Answer → Member → Member
last_answer s x a = push (Ends s) (push (Answered s x) a)

-- one act for each of these
abbrev pub for_each : {A : Type 0} → (A → Member → Member) → List A → Member → Member
for_each f [] a = a
for_each f (x ∷ xs) a = for_each f xs (f x a)

-- ---- ERROR

-- the own transaction of this identity, taken positive and not committed
abbrev pub waiting_as : List Cert → ValueId → Option Cert
waiting_as [] i = None
waiting_as (c ∷ cs) i = elim (id_eq c.id i) [ true ↦ Some c | false ↦ waiting_as cs i ]

abbrev pub unanswered : ValueId → Option Cert → Answer
unanswered i None = Undecided i
unanswered i (Some c) = NotAcknowledged c.gtid

-- a held begin ends by MemberLeft; a transaction whose commit is asked gets its last answer; an active one waits for its next call
abbrev pub leave_session : ℕ → Member → Member
leave_session s a = elim (phase a.life s) [
  | Free ↦ a
  | Holding ↦ last_answer s MemberLeft a
  | Active ↦ a
  | Asking i ↦ last_answer s (unanswered i (waiting_as (pending a.life) i)) a
]

-- it takes ERROR, and its sessions are answered, by ascending session
abbrev pub fall : Cause → Member → Member
fall c a = let b : Member = push (Is Error c) a in for_each leave_session (sessions b.life) b
