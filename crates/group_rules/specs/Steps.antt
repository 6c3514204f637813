-- A member's whole step: its action, then a point, then the decided slots with a point after each, and last the mark Held.
use Rattle.std.specs.Prelude.{ℕ, ◌-◌, ◌%◌, Bool, true, false, ◌&&◌, ◌||◌, not, Option, Some, None, List, [], ◌∷◌, nat_le, ◌==◌, length, map, take, reverse}
use Rattle.std.specs.List.{list_any}
use Rattle.gr_ids.specs.Names.{inc_eq, has_inc, bytes_eq}
use Rattle.slot_values.specs.Log.{Group}
use Rattle.group_rules.specs.Names.{Inc, Joiner, Online, Offline, What, Add, Remove, Value, ToMulti, ToSingle, Executed, Switches, Appoints, Message, Wire, Prepare, Accept, Offer, Greet, Asks, Gives, Gone, Campaign, Tell, Leave, SetPrimary, SetSingle, SetMulti, AskDonor, DonorFailed, Finish, Operator, Held, HoldTimeout, SentAs, AtBallot, Finished, IsNotOnline, NotQueued, AlreadyDone, Founded, Started, WasGone, NoMajority}
use Rattle.group_rules.specs.View.{seated, online_incs}
use Rattle.node_rules.specs.declared.event.PaxosEvent.TheVariants.{Heard, Campaign as Campaigns, Tick}
use Rattle.node_rules.specs.Node.{founder, joiner}
use Rattle.group_rules.specs.Events.{Founds, Starts, Came, Called, Done, Is, Answered, Replied, Event, Hears, Ticks, Works, Calls, Operates, Life, Setup, Stored, Cert}
use Rattle.group_rules.specs.Life.{state, is_up, is_error, is_recovering, is_offline, executed, view, ticks}
use Rattle.group_rules.specs.Watch.{Watch, watch, suspects, gives_up, is_expel_due, leads_by_rank}
use Rattle.txn_forms.specs.Bodies.{body_bytes}
use Rattle.group_rules.specs.Names.{Writes}
use Rattle.group_rules.specs.Queue.{queue, at_place, is_done}
use Rattle.group_rules.specs.Sessions.{phase, sessions, Call, last_call, is_holding}
use Rattle.group_rules.specs.Member.{Member, push, send, at_node, own, own_body, next_id, last_answer, for_each, fall}
use Rattle.group_rules.specs.Calls.{call}
use Rattle.group_rules.specs.Welcomes.{hear_welcome}
use Rattle.group_rules.specs.Recovery.{hear_ask, hear_give, check_ask, ask_donor, donor_failed}
use Rattle.group_rules.specs.Points.{point}
use Rattle.group_rules.specs.Taking.{settle_slots}

-- ---- messages

-- an Add that is offered without a number becomes an own value of a member that is ONLINE
abbrev pub hear_add : What → Member → Member
hear_add (Add j) a = elim (is_up (state a.life)) [ true ↦ own (Add j) None a | false ↦ a ]
hear_add w a = a

abbrev pub hear_offer : Message → Value → Member → Member
hear_offer m v a = elim (v.id.number == 0) [ true ↦ hear_add v.what a | false ↦ at_node (Heard m) a ]

-- An Ask, a Give and an Add without a number are the member's; every other message is heard by its node first.
abbrev pub hear_wire : Message → Wire → Member → Member
hear_wire m (Asks x) a = hear_ask m.from x.place x.executed a
hear_wire m (Gives g) a = hear_give m.from g a
hear_wire m Gone a = fall WasGone (at_node (Heard m) a)
hear_wire m (Greet w) a = hear_welcome w (at_node (Heard m) a)
hear_wire m (Offer v) a = hear_offer m v a
hear_wire m x a = check_ask (at_node (Heard m) a)

-- ---- a worker's result

abbrev pub done_of : ℕ → Option (List ℕ) → Option Cert → Member → Member
done_of p (Some b) (Some c) a = elim (bytes_eq (body_bytes (Writes c.txn)) b) [
  | false ↦ push (Replied (NotQueued p)) a
  | true ↦ elim (is_done a.life p) [ true ↦ push (Replied (AlreadyDone p)) a | false ↦ push (Done p) a ]
]
done_of p b c a = push (Replied (NotQueued p)) a

-- the place has to be queued, with these bytes
abbrev pub work : ℕ → Option (List ℕ) → Member → Member
work p b a = done_of p b (at_place (queue a.life a.me.inc) p) a

-- ---- ticks

abbrev pub time_out_by : ℕ → Option Call → Member → Member
time_out_by s None a = a
time_out_by s (Some c) a = elim (nat_le c.limit c.ticks) [ true ↦ last_answer s (HoldTimeout c.limit) a | false ↦ a ]

-- a hold that has reached its limit ends
abbrev pub time_out : ℕ → Member → Member
time_out s a = elim (is_holding (phase a.life s)) [ true ↦ time_out_by s (last_call a.life s) a | false ↦ a ]

-- the Add of a joiner, without a number
abbrev pub add_of : Joiner → Value
add_of j = record { id = record { origin = j.inc; number = 0 }; what = Add j }

abbrev pub removes_inc : Inc → Value → Bool
removes_inc i v = elim (v.what) [ Remove j ↦ inc_eq i j | _ ↦ false ]

-- a Remove of a member that has been silent for too long, unless an own one of it isn't kept yet
abbrev pub expel_one : Watch → Inc → Member → Member
expel_one w i a = elim (not (inc_eq i a.me.inc) && (is_expel_due a.setup.limits.expel w i && not (list_any (removes_inc i) a.node.own))) [ true ↦ own (Remove i) None a | false ↦ a ]

-- the believed leader is suspected or isn't a member
abbrev pub needs_leader : Watch → Inc → Member → Bool
needs_leader w b a = not (inc_eq b a.me.inc) && (suspects a.me.inc w b || not (has_inc (seated (view a.setup a.life).seats) b))

abbrev pub campaign_if_due : Watch → Member → Member
campaign_if_due w a = elim (needs_leader w a.node.acceptor.promise.inc a) [ true ↦ at_node Campaigns a | false ↦ a ]

-- expulsion and campaign are for the least ONLINE member that it doesn't suspect, if that is this one
abbrev pub look_after : Watch → Member → Member
look_after w a = elim (leads_by_rank a.me.inc w (online_incs (view a.setup a.life))) [ true ↦ campaign_if_due w (for_each (expel_one w) (seated (view a.setup a.life).seats) a) | false ↦ a ]

-- at each 60th tick while ONLINE the executed set is told
abbrev pub tell_at : ℕ → Member → Member
tell_at n a = elim (((n % 60) == 0) && is_up (state a.life)) [ true ↦ own_body (Executed (executed a.life)) a | false ↦ a ]

abbrev pub member_tick : Watch → Member → Member
member_tick w a = elim (gives_up a.setup.limits.majority w) [ true ↦ fall NoMajority a | false ↦ tell_at (ticks a.life) (look_after w (at_node Tick a)) ]

-- an OFFLINE joiner offers its Add again
abbrev pub tick_on : Member → Member
tick_on a = elim (is_offline (state a.life)) [ true ↦ send a.contact (Offer (add_of a.me)) a | false ↦ member_tick (watch a.setup a.me.inc a.life) a ]

abbrev pub tick_once : Member → Member
tick_once a = tick_on (for_each time_out (sessions a.life) a)

-- ---- operator actions

abbrev pub reply_ballot : Member → Member
reply_ballot a = push (Replied (AtBallot a.node.acceptor.promise)) a

-- an own value, and the reply that names it
abbrev pub reply_sent : (Member → Member) → Member → Member
reply_sent f a = let i = next_id a in push (Replied (SentAs i)) (f a)

-- an action that wants its member ONLINE
abbrev pub if_online : (Member → Member) → Member → Member
if_online f a = elim (is_up (state a.life)) [ true ↦ f a | false ↦ push (Replied (IsNotOnline (state a.life))) a ]

abbrev pub leave : Member → Member
leave a = reply_sent (own (Remove a.me.inc) None) a

abbrev pub operate : Operator → Member → Member
operate Campaign a = if_online (λ b. reply_ballot (at_node Campaigns b)) a
operate Tell a = if_online (λ b. reply_sent (own_body (Executed (executed b.life))) b) a
operate Leave a = elim (is_recovering (state a.life)) [ true ↦ leave a | false ↦ if_online leave a ]
operate (SetPrimary i) a = if_online (reply_sent (own_body (Appoints i))) a
operate (SetSingle o) a = if_online (reply_sent (own_body (Switches (ToSingle o)))) a
operate SetMulti a = if_online (reply_sent (own_body (Switches ToMulti))) a
operate (AskDonor d) a = ask_donor d a
operate DonorFailed a = donor_failed a
operate Finish a = push (Replied Finished) a

-- ---- the action of a step

abbrev pub act_alive : Event → Member → Member
act_alive (Hears m) a = hear_wire m m.wire a
act_alive Ticks a = tick_once a
act_alive (Works p b) a = work p b a
act_alive (Calls s r) a = call s r a
act_alive (Operates o) a = operate o a

-- in ERROR a Prepare and an Accept are still done; the other messages, a tick and a worker's result change nothing
abbrev pub hear_in_error : Message → Wire → Member → Member
hear_in_error m (Prepare b s) a = at_node (Heard m) (push (Came (Hears m)) a)
hear_in_error m (Accept b t v) a = at_node (Heard m) (push (Came (Hears m)) a)
hear_in_error m x a = a

abbrev pub act_in_error : Event → Member → Member
act_in_error (Hears m) a = hear_in_error m m.wire a
act_in_error Ticks a = a
act_in_error (Works p b) a = push (Replied (NotQueued p)) a
act_in_error (Calls s r) a = call s r (push (Came (Calls s r)) a)
act_in_error (Operates o) a = operate o (push (Came (Operates o)) a)

abbrev pub act : Event → Member → Member
act e a = elim (is_error (state a.life)) [ true ↦ act_in_error e a | false ↦ act_alive e (push (Came e) a) ]

-- ---- the whole step

-- the begin of this step is still held
abbrev pub called_now : Life → ℕ → Bool
called_now [] s = false
called_now (Came e ∷ l) s = false
called_now (Called t v w ∷ l) s = (t == s) || called_now l s
called_now (_ ∷ l) s = called_now l s

abbrev pub held_mark : Event → Member → Member
held_mark (Calls s r) a = elim (called_now a.life s && is_holding (phase a.life s)) [ true ↦ push (Answered s Held) a | false ↦ a ]
held_mark e a = a

unfoldable pub step : Event → Member → Member
step e a = held_mark e (settle_slots (point (act e (record a { sent = [] }))))

-- what a step has left, oldest first
abbrev pub left_by : Member → Member → Life
left_by a b = reverse (take (length b.life - length a.life) b.life)

-- ---- the begin

abbrev pub group_of : Setup → Group
group_of s = record { founders = map {A = Joiner} (λ j. j.inc) s.founders; horizon = s.limits.horizon }

unfoldable pub found : Setup → Joiner → Member
found s j = record { setup = s; me = j; contact = j.inc; node = founder (group_of s) j.inc; life = Is Online Founded ∷ Founds ∷ []; sent = [] }

-- a joiner has what its server stored, and sends its Add to a contact
unfoldable pub start : Setup → Joiner → Stored → Inc → Member
start s j x i = send i (Offer (add_of j)) (record { setup = s; me = j; contact = i; node = joiner (group_of s) j.inc; life = Is Offline Started ∷ Starts x ∷ []; sent = [] })
