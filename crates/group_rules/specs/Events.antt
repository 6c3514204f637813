-- What can happen to an incarnation, and what it leaves in its history.
use Rattle.std.specs.Prelude.{ℕ, Option, Some, None, List, [], ◌∷◌}
use Rattle.gtid_sets.specs.Sets.{Gtids}
use Rattle.group_rules.specs.Names.{ValueId, Gtid, Item, Change, Joiner, Value, Txn, Body, Message, Welcome, Give, Limits, Mode, Level, MemberState, Request, Operator, Answer, BegunWith, IsChanged, Reply, Cause, Effect, Mark, TookMark, SkippedMark, DoneMark, CommittedMark, StateMark, GivenMark, AnsweredMark, RepliedMark}

-- Of a worker's result it is the place, and the bytes of its body where the place is queued then.
pub data Event : Type 0 where
  Hears : (message : Message) → Event
  Ticks : Event
  Works : (place : ℕ) (body : Option (List ℕ)) → Event
  Calls : (session : ℕ) (request : Request) → Event
  Operates : (operator : Operator) → Event

-- An entry that was taken: its slot and place, and what it does. It holds the body that its value's bytes spell; the last part of a transaction holds the transaction.
pub record Entry : Type 0 where
  pub slot : ℕ
  pub place : ℕ
  pub value : Value
  pub effect : Effect
  pub holds : Option Body

-- A certified transaction. That of one that a Give brought has the number 0 in its identity, since a Give doesn't tell it.
pub record Cert : Type 0 where
  pub place : ℕ
  pub id : ValueId
  pub gtid : Gtid
  pub txn : Txn

-- a row written while the server doesn't run
pub record OfflineWrite : Type 0 where
  pub gtid : Gtid
  pub item : Item
  pub row : List ℕ

-- what a server keeps when its incarnation ends: what it has executed, its committed transactions in the order of their commits, its offline writes
pub record Stored : Type 0 where
  pub executed : Gtids
  pub committed : List Cert
  pub writes : List OfflineWrite

-- one thing in a history: some are marks, which are printed, the others are printed nowhere
pub data Did : Type 0 where
  -- the begin of an incarnation: founded, or to join
  Founds : Did
  Starts : (server : Stored) → Did
  -- an event comes; what follows it, up to the next event, is what it leaves
  Came : (event : Event) → Did
  -- an own value is made; what its place is to hold
  Made : (value : Value) (holds : Option Body) → Did
  -- marks
  Took : (entry : Entry) → Did
  Skips : (slot : ℕ) (value : Value) → Did
  Done : (place : ℕ) → Did
  Committed : (gtid : Gtid) → Did
  Is : (state : MemberState) (cause : Cause) → Did
  Gave : (place count : ℕ) → Did
  Answered : (session : ℕ) (answer : Answer) → Did
  Begun : (session : ℕ) (set : Gtids) (sync : Option ℕ) → Did
  Changed : (session : ℕ) (change : Change) → Did
  Replied : (reply : Reply) → Did
  -- a begin call that isn't refused; the commit of a transaction is asked as this value; a transaction or a hold ends
  Called : (session : ℕ) (level : Level) (limit : ℕ) → Did
  AsksCommit : (session : ℕ) (id : ValueId) → Did
  Ends : (session : ℕ) → Did
  -- a joiner is welcomed; it takes up a Give with these transactions; its ask fails
  Enters : (welcome : Welcome) → Did
  Restores : (give : Give) (txns : List Cert) → Did
  AskFails : Did

-- what an incarnation has done, newest first
abbrev pub Life : Type 0
Life = List Did

-- what a group is founded with
pub record Setup : Type 0 where
  pub limits : Limits
  pub mode : Mode
  pub founders : List Joiner

-- ---- marks

abbrev pub mark_of : Did → Option Mark
mark_of (Took e) = Some (TookMark e.place e.value e.effect)
mark_of (Skips t v) = Some (SkippedMark t v.id)
mark_of (Done p) = Some (DoneMark p)
mark_of (Committed g) = Some (CommittedMark g)
mark_of (Is s c) = Some (StateMark s c)
mark_of (Gave p n) = Some (GivenMark p n)
mark_of (Answered s x) = Some (AnsweredMark s x)
mark_of (Begun s e y) = Some (AnsweredMark s (BegunWith e y))
mark_of (Changed s c) = Some (AnsweredMark s IsChanged)
mark_of (Replied r) = Some (RepliedMark r)
mark_of _ = None

abbrev pub with_mark : Option Mark → List Mark → List Mark
with_mark None ms = ms
with_mark (Some m) ms = m ∷ ms

abbrev pub marks_of : List Did → List Mark
marks_of [] = []
marks_of (d ∷ ds) = with_mark (mark_of d) (marks_of ds)
