-- How a member stands for one of the rules.
use Rattle.std.specs.Prelude.{◌≡◌, true, false, Some, None, [], map}
use Rattle.paxos_forms.specs.declared.message.Message.{Message}
use Rattle.paxos_forms.specs.Messages.{IsMessage}
use Rattle.node_rules.specs.Lists.{In}
use Rattle.group_rules.specs.Events.{Event, Hears, Ticks, Works, Calls, Operates, marks_of}
use Rattle.group_rules.specs.Histories.{arranged}
use Rattle.group_rules.specs.Life.{stored}
use Rattle.group_rules.specs.Member.{Member}
use Rattle.group_rules.specs.Steps.{step, left_by}
use Rattle.member_truth.specs.Ranged.{IsRanged}
use Rattle.member_messages.specs.Sending.{spelt}
use Rattle.kept_server.specs.Keeping.{left_of}
use Rattle.member_moment.specs.Calling.{IsRequest}
use Rattle.member_moment.specs.Standing.{Stands}
use Rattle.member_moment.specs.declared.moment.Moment.{Moment}
use Rattle.member_core.specs.Ledgers.{IsLedger}
use Rattle.member_core.specs.Operating.{IsOperator}
use Rattle.member_core.specs.declared.event.Event.{Event as Happening}
use Rattle.member_core.specs.declared.event.Event.TheVariants.{Message as Comes, Tick, Done, Undone, Session, Operate}
use Rattle.member_core.specs.declared.event.StepLeft.{StepLeft}
use Rattle.member_core.specs.Whole.{Contents, Whole as Running, contents}
use Rattle.member_core.specs.declared.ledger.Ledger.{Ledger}
use Rattle.member_core.specs.declared.member.Started.{Started}

-- the messages of a step are handed out at its end
abbrev pub cleared : Member → Member
cleared a = record a { sent = [] }

-- its server has what it had at the start of this incarnation, and what this one committed
abbrev pub IsServerOf : Member → Ledger → Type 0
IsServerOf a x = IsLedger (stored a.life) (left_of a.life) x

-- it is made for a member of the rules, between two steps
pub record IsMadeOf (a : Member) (x : Contents) : Type 0 where
  pub moment : Stands a.life (cleared a) x.moment
  pub server : IsServerOf a x.ledger
  pub running : x.is_stopped ≡ false

-- it is stopped, and its server has all that this member of the rules had executed and committed
pub record IsStoppedOf (a : Member) (x : Contents) : Type 0 where
  pub server : IsServerOf a x.ledger
  pub stopped : x.is_stopped ≡ true

-- It stands for a member of the rules.
unfoldable pub IsMember : Member → Running → Type 0
IsMember a x = IsMadeOf a (contents x)

-- It stood for a member of the rules when it was stopped.
unfoldable pub HasServerOf : Member → Running → Type 0
HasServerOf a x = IsStoppedOf a (contents x)

-- ---- events

abbrev pub event_of : Happening → Event
event_of (Comes m) = Hears m
event_of Tick = Ticks
event_of (Done w) = Works w.place (Some w.body)
event_of (Undone p) = Works p None
event_of (Session s r) = Calls s r
event_of (Operate o) = Operates o

-- within the ranges that what comes has
abbrev pub IsEvent : Happening → Type 0
IsEvent (Comes m) = IsMessage m
IsEvent (Session s r) = IsRequest r
IsEvent (Operate o) = IsOperator o
IsEvent e = Unit {0}

-- ---- a step

-- what it keeps and leaves
pub record GoesOn (e : Event) (a : Member) (left : StepLeft) (x : Moment) (l : Ledger) : Type 0 where
  pub moment : Stands (step e a).life (cleared (step e a)) x
  pub server : IsServerOf (step e a) l
  pub marks : left.marks.items ≡ marks_of (left_by a (step e a))
  pub sent : left.sent.items ≡ map spelt (arranged (step e a).sent)
  pub spellable : (m : Message) → In m (step e a).sent → IsMessage m
  pub ranged : IsRanged (step e a).life

pub record IsStepOf (e : Event) (a : Member) (left : StepLeft) (x : Running) : Type 0 where
  pub stands : IsMember (step e a) x
  pub marks : left.marks.items ≡ marks_of (left_by a (step e a))
  pub sent : left.sent.items ≡ map spelt (arranged (step e a).sent)
  pub spellable : (m : Message) → In m (step e a).sent → IsMessage m
  pub ranged : IsRanged (step e a).life

-- ---- the begin

pub record HasStarted (a : Member) (x : Started) : Type 0 where
  pub stands : IsMember a x.member
  pub sent : x.sent.items ≡ map spelt a.sent
  pub spellable : (m : Message) → In m a.sent → IsMessage m
