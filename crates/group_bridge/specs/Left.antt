-- What each thing that is left in a history asks of the history before it: the tests that a member makes before it leaves it.
-- `l` is the history before, of the incarnation `i`; `e` is the event of the step.
use Rattle.std.specs.Prelude.{◌≡◌, ◌⊎◌, ◌≤◌, ◌<◌, ℕ, suc, Bool, true, false, ◌&&◌, ◌||◌, not, Option, Some, None, List, [], ◌∷◌, ◌++◌, length, reverse, filter, nat_le, ◌==◌}
use Rattle.gr_ids.specs.Names.{inc_eq, is_inc}
use Rattle.gtid_sets.specs.Sets.{Gtids, minus, with_gtid}
use Rattle.slot_values.specs.declared.kept.Kept.{Kept}
use Rattle.slot_values.specs.declared.kept.Kept.TheVariants.{At as KeptAt, Skipped as IsSkipped}
use Rattle.node_rules.specs.Lists.{In}
use Rattle.node_rules.specs.Welcoming.{is_in_order, is_for}
use Rattle.node_rules.specs.declared.taken.Taken.{Taken}
use Rattle.gr_ids.specs.declared.names.Inc.{Inc}
use Rattle.gr_ids.specs.declared.names.ValueId.{ValueId}
use Rattle.gr_ids.specs.declared.names.Gtid.{Gtid}
use Rattle.gr_ids.specs.declared.levels.MemberState.{MemberState}
use Rattle.gr_ids.specs.declared.levels.MemberState.TheVariants.{Online, Error}
use Rattle.key_items.specs.declared.change.Change.{Change}
use Rattle.slot_values.specs.declared.value.Value.{Value}
use Rattle.slot_values.specs.declared.value.What.{What}
use Rattle.slot_values.specs.declared.value.What.TheVariants.{Remove, Body as Says}
use Rattle.txn_forms.specs.declared.body.Txn.{Txn}
use Rattle.txn_forms.specs.declared.body.Part.{Part}
use Rattle.txn_forms.specs.declared.body.Body.{Body}
use Rattle.txn_forms.specs.declared.body.Body.TheVariants.{Txn as Writes, Prepared, Executed, Online as Arrives, Part as PartOf}
use Rattle.paxos_forms.specs.declared.message.Message.{Message}
use Rattle.paxos_forms.specs.declared.message.Wire.{Wire}
use Rattle.paxos_forms.specs.declared.message.Wire.TheVariants.{Offer, Welcome as Greet, Ask as Asks, Give as Gives}
use Rattle.paxos_forms.specs.declared.welcome.Welcome.{Welcome}
use Rattle.paxos_forms.specs.declared.recovery.Give.{Give}
use Rattle.group_rules.specs.declared.requests.Request.TheVariants.{Begin}
use Rattle.group_rules.specs.declared.answers.Answer.{Answer}
use Rattle.group_rules.specs.declared.answers.Answer.TheVariants.{Committed as CommittedAs}
use Rattle.group_rules.specs.declared.marks.Cause.TheVariants.{OwnOnline, Removed}
use Rattle.group_rules.specs.declared.marks.Effect.{Effect}
use Rattle.group_rules.specs.declared.marks.Effect.TheVariants.{Plain, Conflict as Conflicts}
use Rattle.group_rules.specs.declared.marks.Reply.{Reply}
use Rattle.group_rules.specs.declared.marks.Reply.TheVariants.{Asked}
use Rattle.txn_forms.specs.Bodies.{body_bytes}
use Rattle.group_rules.specs.Events.{Did, Founds, Starts, Came, Made, Took, Skips, Done, Committed, Is, Gave, Answered, Begun, Changed, Replied, Called, AsksCommit, Ends, Enters, Restores, AskFails, Event, Hears, Calls, Life, Setup, Entry, Cert}
use Rattle.group_rules.specs.Life.{state, is_up, is_error, is_offline, is_recovering, executed, certs, last_made, is_arrival, has_give, entered, entry_at, upto}
use Rattle.group_rules.specs.Queue.{pending, queue, at_place, is_done, is_own}
use Rattle.group_rules.specs.Commit.{may_commit, owes_prepared}
use Rattle.group_rules.specs.Sessions.{Free, Holding, Active, Asking, is_asking, phase, Call, last_call, changes}
use Rattle.group_rules.specs.Keys.{killed, was_left, holder}
use Rattle.group_rules.specs.Rows.{fits, row_now, known}
use Rattle.group_rules.specs.Holds.{is_released, sync_told}
use Rattle.group_rules.specs.Calls.{state_then, items_of, is_after_call}
use Rattle.txn_forms.specs.Parts.{whole_bytes, most_bytes}
use Rattle.group_rules.specs.Parts.{cut}
use Rattle.group_rules.specs.Recovery.{add_place, certs_given, pending_ask, is_possible, is_add, give_of}
use Rattle.group_rules.specs.Taking.{entry_of}

-- what had happened to an incarnation at some time
abbrev pub IsPast : Life → Life → Type 0
IsPast p [] = p ≡ []
IsPast p (d ∷ l) = (p ≡ d ∷ l) ⊎ IsPast p l

-- ---- own values

abbrev pub txn_then : Life → ℕ → Txn
txn_then l s = record { after = is_after_call (last_call l s); snapshot = executed l; items = items_of (changes l s); changes = changes l s }

-- the session's transaction is active, and was neither killed nor left
pub record IsOpen (l : Life) (s : ℕ) : Type 0 where
  pub active : phase l s ≡ Active
  pub unkilled : killed l s ≡ None
  pub stayed : was_left l s ≡ false

-- these parts, the last one first, were made since, and nothing else happened
abbrev pub MadeParts : List Part → Life → Life → Type 0
MadeParts [] l before = l ≡ before
MadeParts (p ∷ ps) l before = (v : Value) × (rest : Life) × (l ≡ Made v (Some (PartOf p)) ∷ rest) × MadeParts ps rest before

-- The transaction of a session, whose commit was asked right before: its value has the whole body, or the last part of it, the others having been made.
-- A body of more bytes than most_bytes is refused.
pub record AsksFor (l : Life) (v : Value) (t : Txn) : Type 0 where
  pub session : ℕ
  pub id : ValueId
  pub past : Life
  pub is_open : IsOpen past session
  pub asked_as : id ≡ v.id
  pub some_changes : changes past session ≡ [] → ⊥
  pub txn : t ≡ txn_then past session
  pub parts : List Part
  pub since : MadeParts parts l (AsksCommit session id ∷ past)
  pub bytes : ((parts ≡ []) × (v.what ≡ Says (body_bytes (Writes t))) × (length (body_bytes (Writes t)) ≤ whole_bytes)) ⊎ ((p : Part) × (v.what ≡ Says (body_bytes (PartOf p))) × (whole_bytes < length (body_bytes (Writes t))) × (reverse (p ∷ parts) ≡ cut (body_bytes (Writes t))))
  pub most : length (body_bytes (Writes t)) ≤ most_bytes

-- what an own value is to hold
abbrev pub HoldsRightly : Setup → Inc → Life → Value → Option Body → Type 0
HoldsRightly s i l v None = (b : List ℕ) → v.what ≡ Says b → ⊥
HoldsRightly s i l v (Some (Writes t)) = AsksFor l v t
HoldsRightly s i l v (Some (Executed e)) = (v.what ≡ Says (body_bytes (Executed e))) × (e ≡ executed l)
HoldsRightly s i l v (Some (Arrives e)) = (v.what ≡ Says (body_bytes (Arrives e))) × (e ≡ executed l) × (is_recovering (state l) ≡ true) × (has_give l ≡ true) × (pending l ≡ [])
HoldsRightly s i l v (Some (Prepared g)) = (v.what ≡ Says (body_bytes (Prepared g))) × ((c : Cert) × In c (pending l) × (c.gtid ≡ g) × (owes_prepared s l i c ≡ true))
HoldsRightly s i l v (Some (PartOf p)) = (v.what ≡ Says (body_bytes (PartOf p))) × ((p.index == p.count) ≡ false)
HoldsRightly s i l v (Some b) = v.what ≡ Says (body_bytes b)

-- an own value has the next number
pub record IsMade (s : Setup) (i : Inc) (l : Life) (v : Value) (holds : Option Body) : Type 0 where
  pub origin : v.id.origin ≡ i
  pub number : v.id.number ≡ suc (last_made l)
  pub rightly : HoldsRightly s i l v holds

-- ---- commits

abbrev pub with_all : Gtids → List Gtid → Gtids
with_all e [] = e
with_all e (g ∷ gs) = with_gtid (with_all e gs) g

abbrev pub AreOf : List Cert → List Gtid → Type 0
AreOf cs [] = Unit {0}
AreOf cs (g ∷ gs) = ((c : Cert) × In c cs × (c.gtid ≡ g)) × AreOf cs gs

-- One of those that were pending at the beginning of this point, all commits since being of earlier ones of these.
pub record IsCommitted (s : Setup) (i : Inc) (l : Life) (g : Gtid) : Type 0 where
  pub cert : Cert
  pub is_it : cert.gtid ≡ g
  pub begin : Life
  pub past : IsPast begin l
  pub first : List Cert
  pub rest : List Cert
  pub pending : pending begin ≡ first ++ cert ∷ rest
  pub certs : certs l ≡ certs begin
  pub since : List Gtid
  pub earlier : AreOf first since
  pub executed : executed l ≡ with_all (executed begin) since
  pub may : may_commit s l i cert ≡ true

-- the answer Committed follows the mark Committed of an own transaction
pub record IsAcknowledged (i : Inc) (l : Life) (g : Gtid) : Type 0 where
  pub cert : Cert
  pub past : Life
  pub mark : IsPast (Committed g ∷ past) l
  pub certified : In cert (certs past)
  pub is_it : cert.gtid ≡ g
  pub own : is_own i cert ≡ true

-- ---- sessions

pub record IsBegun (s : Setup) (i : Inc) (l : Life) (session : ℕ) (read : Gtids) (place : Option ℕ) : Type 0 where
  pub call : Call
  pub held : phase l session ≡ Holding
  pub is_call : last_call l session ≡ Some call
  pub released : is_released s i call l ≡ true
  pub set : read ≡ executed l
  pub sync : place ≡ sync_told i call l

pub record IsChanged (i : Inc) (l : Life) (session : ℕ) (change : Change) : Type 0 where
  pub is_open : IsOpen l session
  pub was_up : is_up (state_then (last_call l session)) ≡ true
  pub free : holder l i session change.item ≡ None
  pub fits : fits change.what (row_now l session change.item) ≡ true

-- The value of this identity waits no more: it was taken with a conflict, or it is committed, or the incarnation took ERROR.
pub data IsOver (l : Life) (id : ValueId) : Type 0 where
  Fallen : is_error (state l) ≡ true → IsOver l id
  Refused : (x : Entry) (g : Gtid) (past : Life) → IsPast (Took x ∷ past) l → x.value.id ≡ id → x.effect ≡ Conflicts g → IsOver l id
  Settled : (c : Cert) (past : Life) → IsPast (Committed c.gtid ∷ past) l → In c (certs past) → c.id ≡ id → IsOver l id

-- A transaction ends whose commit isn't asked, or which was killed or left, or whose value waits no more.
pub data IsEnded (l : Life) (s : ℕ) : Type 0 where
  Unasked : is_asking (phase l s) ≡ false → IsEnded l s
  WasKilled : (g : Gtid) → killed l s ≡ Some g → IsEnded l s
  WasLeft : was_left l s ≡ true → IsEnded l s
  Over : (id : ValueId) → phase l s ≡ Asking id → IsOver l id → IsEnded l s

-- ---- joining

-- a Welcome in order, for this incarnation, which is OFFLINE
pub record IsEntered (i : Inc) (l : Life) (w : Welcome) : Type 0 where
  pub message : Message
  pub past : Life
  pub heard : l ≡ Came (Hears message) ∷ past
  pub wire : message.wire ≡ Greet w
  pub horizon : ℕ
  pub offline : is_offline (state past) ≡ true
  pub in_order : is_in_order w ≡ true
  pub for_it : is_for w i horizon ≡ true

-- a Give that was awaited, of one that has no transaction which the group hasn't
pub record IsRestored (s : Setup) (l : Life) (g : Give) (cs : List Cert) : Type 0 where
  pub message : Message
  pub count : ℕ
  pub past : Life
  pub heard : l ≡ Gave g.place count ∷ Came (Hears message) ∷ past
  pub wire : message.wire ≡ Gives g
  pub recovering : is_recovering (state past) ≡ true
  pub donor : is_inc (pending_ask past) message.from ≡ true
  pub place : (g.place == add_place (entered past)) ≡ true
  pub certs : cs ≡ certs_given g.txns
  pub possible : is_possible s g cs ≡ true
  pub no_extra : minus (executed past) g.certified ≡ []

-- (the states RECOVERING and ONLINE come with a Welcome and with the own Online entry)
abbrev pub IsState : MemberState → Type 0
IsState Error = Unit {0}
IsState x = ⊥

-- ---- all else

abbrev pub IsAnswered : Inc → Life → Answer → Type 0
IsAnswered i l (CommittedAs g) = IsAcknowledged i l g
IsAnswered i l x = Unit {0}

-- an ask is answered so where no Give was taken up
abbrev pub IsReplied : Life → Reply → Type 0
IsReplied l (Asked d) = has_give l ≡ false
IsReplied l x = Unit {0}

-- (Own values, slots taken, a Welcome and the beginning of a history are left otherwise.)
abbrev pub IsLeft : Event → Setup → Inc → Life → Did → Type 0
IsLeft e s i l Founds = ⊥
IsLeft e s i l (Starts x) = ⊥
IsLeft e s i l (Came d) = d ≡ e
IsLeft e s i l (Made v holds) = ⊥
IsLeft e s i l (Took x) = ⊥
IsLeft e s i l (Skips t v) = ⊥
IsLeft e s i l (Done p) = (c : Cert) × (at_place (queue l i) p ≡ Some c) × (is_done l p ≡ false)
IsLeft e s i l (Committed g) = IsCommitted s i l g
IsLeft e s i l (Is x c) = IsState x
IsLeft e s i l (Gave p n) = Unit {0}
IsLeft e s i l (Answered t x) = IsAnswered i l x
IsLeft e s i l (Begun t set sync) = IsBegun s i l t set sync
IsLeft e s i l (Changed t c) = IsChanged i l t c
IsLeft e s i l (Replied r) = IsReplied l r
IsLeft e s i l (Called t v w) = (phase l t ≡ Free) × ((past : Life) × (l ≡ Came (Calls t (Begin v w)) ∷ past))
IsLeft e s i l (AsksCommit t id) = IsOpen l t
IsLeft e s i l (Ends t) = IsEnded l t
IsLeft e s i l (Enters w) = ⊥
IsLeft e s i l (Restores g cs) = IsRestored s l g cs
IsLeft e s i l AskFails = Unit {0}

-- ---- slots

-- what a slot that was handed out leaves
abbrev pub slot_left : Setup → Life → ℕ → Value → Kept → Did
slot_left s l t v IsSkipped = Skips t v
slot_left s l t v (KeptAt p has_effect) = Took (entry_of s l t p has_effect v)

abbrev pub taken_left : Setup → Life → Taken → Did
taken_left s l x = slot_left s l x.slot x.value x.kept

abbrev pub is_arrival_of : Inc → Entry → Bool
is_arrival_of i e = inc_eq e.value.id.origin i && is_arrival e.holds

-- the own Remove, with effect
abbrev pub is_exit : Inc → What → Effect → Bool
is_exit i (Remove j) Plain = inc_eq j i
is_exit i w f = false

abbrev pub is_exit_of : Inc → Entry → Bool
is_exit_of i e = is_exit i e.value.what e.effect

abbrev pub own_state : Bool → Bool → Entry → Life → Life
own_state arrives exits e l = elim arrives [
  | true ↦ Is Online OwnOnline ∷ Took e ∷ l
  | false ↦ elim exits [ true ↦ Is Error Removed ∷ Took e ∷ l | false ↦ Took e ∷ l ]
]

-- an incarnation that takes its own Online entry comes ONLINE at once, one that takes its own Remove takes ERROR
abbrev pub with_state : Inc → Did → Life → Life
with_state i (Took e) l = own_state (is_arrival_of i e) (is_exit_of i e) e l
with_state i d l = d ∷ l

-- Between what an incarnation takes and the own state that comes with it nothing else is left.
abbrev pub is_settled : Inc → Life → Bool
is_settled i (Took e ∷ l) = not (is_arrival_of i e || is_exit_of i e)
is_settled i (Enters w ∷ l) = false
is_settled i l = true

abbrev pub IsAfterAll : Inc → Did → Life → Type 0
IsAfterAll i (Is x c) l = Unit {0}
IsAfterAll i d l = is_settled i l ≡ true

-- ---- messages that aren't the node's

-- A Give goes to the one that asked. It tells what its sender had taken up to an Add, and of its transactions those that the other hasn't.
pub record IsGiveSent (s : Setup) (l : Life) (to : Inc) (g : Give) : Type 0 where
  pub message : Message
  pub past : Life
  pub heard : l ≡ Came (Hears message) ∷ past
  pub asker : to ≡ message.from
  pub place : ℕ
  pub set : Gtids
  pub asked : message.wire ≡ Asks (record { place = place; executed = set })
  pub add : Entry
  pub there : entry_at l place ≡ Some add
  pub is_add : is_add add.value.what add.effect ≡ true
  pub give : g ≡ give_of s (upto l add.place) (filter (λ c. nat_le c.place add.place) (known l)) add.place set

abbrev pub IsSent : Setup → Life → Inc → Wire → Type 0
IsSent s l to (Asks x) = (is_recovering (state l) ≡ true) × (has_give l ≡ false) × (x ≡ record { place = add_place (entered l); executed = executed l })
IsSent s l to (Gives g) = IsGiveSent s l to g
IsSent s l to (Offer v) = v.id.number ≡ 0
IsSent s l to x = ⊥
