-- A member's history as the list of its events, each with its marks in order and its messages; and which histories are lawful.
use Rattle.std.specs.Prelude.{◌≡◌, Bool, true, false, List, [], ◌∷◌, map}
use Rattle.gr_ids.specs.Names.{inc_eq, inc_lt, bytes_eq, bytes_lt}
use Rattle.group_rules.specs.Names.{Message, Mark}
use Rattle.paxos_forms.specs.Messages.{message_bytes}
use Rattle.group_rules.specs.Events.{Event, marks_of}
use Rattle.group_rules.specs.Member.{Member}
use Rattle.group_rules.specs.Steps.{step, left_by}

-- ---- the messages of a step: a set, by ascending recipient, then by ascending bytes (they have one sender)

abbrev pub message_lt : Message → Message → Bool
message_lt a b = elim (inc_eq a.to b.to) [ true ↦ bytes_lt (message_bytes a) (message_bytes b) | false ↦ inc_lt a.to b.to ]

abbrev pub message_eq : Message → Message → Bool
message_eq a b = bytes_eq (message_bytes a) (message_bytes b)

abbrev pub with_message : List Message → Message → List Message
with_message [] m = m ∷ []
with_message (x ∷ xs) m = elim (message_lt m x) [ true ↦ m ∷ x ∷ xs | false ↦ elim (message_eq m x) [ true ↦ x ∷ xs | false ↦ x ∷ with_message xs m ] ]

abbrev pub arranged : List Message → List Message
arranged [] = []
arranged (m ∷ ms) = with_message (arranged ms) m

-- ---- what a step answers

-- the marks of the step that made b of a
abbrev pub marks_by : Member → Member → List Mark
marks_by a b = marks_of (left_by a b)

-- an event, with its marks in order and its messages in theirs
pub record Turn : Type 0 where
  pub event : Event
  pub marks : List Mark
  pub sent : List Message

-- newest first
abbrev pub History : Type 0
History = List Turn

-- the member after the events of a history
abbrev pub after : Member → History → Member
after a [] = a
after a (t ∷ h) = step t.event (after a h)

-- what the rules give to an event at this member
abbrev pub turn_of : Member → Event → Turn
turn_of a e = let b : Member = step e a in record { event = e; marks = marks_by a b; sent = arranged b.sent }

-- Each event has the marks and the messages that the rules give from it and from the events before it.
abbrev pub IsLawful : Member → History → Type 0
IsLawful a [] = Unit {0}
IsLawful a (t ∷ h) = (t ≡ turn_of (after a h) t.event) × IsLawful a h

-- the history that these events have, newest first
abbrev pub history_of : Member → List Event → History
history_of a [] = []
history_of a (e ∷ es) = let h = history_of a es in turn_of (after a h) e ∷ h

abbrev pub events : History → List Event
events h = map {A = Turn} (λ t. t.event) h
