-- What each step of a script does, and when it is refused. A step is one move of the world after another.
use Rattle.std.specs.Prelude.{ℕ, zero, suc, ◌+◌, ◌^◌, Bool, true, false, ◌&&◌, ◌||◌, Option, Some, None, List, [], ◌∷◌, ◌++◌, ◌==◌, nat_lt, length, map, drop}
use Rattle.std.specs.List.{list_any, list_all}
use Rattle.group_rules.specs.Names.{Inc, Item, Change, ChangeKind, Inserts, Updates, Deletes, Joiner, Mode, Eventual, Message, Mark, Request, Begin, Insert, Update, Delete, Commit, Rollback, Finish, Wire, Prepare, Promise, Accept, Accepted, Learn, Offer, Greet, Asks, Gives, Alive, Gone}
use Rattle.group_rules.specs.Names.{Writes as HasTxn}
use Rattle.txn_forms.specs.Bodies.{body_bytes}
use Rattle.paxos_forms.specs.Messages.{message_bytes}
use Rattle.group_rules.specs.declared.said.Said.{Said}
use Rattle.group_rules.specs.declared.said.Said.TheVariants.{Marked, Idle, Offline as WroteOffline, Looked}
use Rattle.group_rules.specs.declared.said.Look.{Look}
use Rattle.group_rules.specs.declared.said.Look.TheVariants.{Wire as OnWire}
use Rattle.group_rules.specs.declared.said.WireLine.{WireLine}
use Rattle.group_rules.specs.declared.steps.Step.{Step}
use Rattle.group_rules.specs.declared.steps.Step.TheVariants.{Server as DeclareServer, Block, Found, Session, Once, Operate, Deliver, Lose, Settle, Work, Drain, Tick, Start, Stop, Offline as WriteOffline, ShowMembers, ShowSlots, ShowConfig, ShowGtids, ShowRows, ShowQueue, ShowCertifier, ShowKept, ShowWire, Finish as FinishThreads}
use Rattle.group_rules.specs.Events.{Event, Changed, Setup, Cert, Ticks, Works, Calls, Operates, mark_of}
use Rattle.group_rules.specs.Queue.{queue, waiting, at_place}
use Rattle.group_rules.specs.Sessions.{Phase, Free, phase, is_active}
use Rattle.group_rules.specs.Member.{Member}
use Rattle.group_rules.specs.Looks.{show_members, show_slots, show_config, show_gtids, show_rows, show_queue, show_certifier, show_kept}
use Rattle.group_rules.specs.World.{World, new_world, Server, Does, Writes, Past, server_at, is_declared, member_at, is_running, runs, joiner_of, default_uuid, is_taken, is_group_taken, Move, Declares, Founds, Starts, Stops, WritesRow, Takes, Happens, move}

-- ---- a play: the world, the wire, and what the present step says

-- a message that was sent, with the number of its bytes
pub record Letter : Type 0 where
  pub message : Message
  pub size : ℕ
  pub delivered : Bool
  pub lost : Bool

-- why a step isn't done
pub data Refusal : Type 0 where
  Declared : Refusal
  NoServer : Refusal
  AlreadyRunning : Refusal
  NoMessage : (k : ℕ) → Refusal
  MessageLost : (k : ℕ) → Refusal
  NoMember : Refusal

-- the numbers to which a move would have brought the wire above its limits
pub record Full : Type 0 where
  pub messages : ℕ
  pub bytes : ℕ

-- The k-th letter is the k-th message sent. `said` is what the present step says, or `refused` why it isn't done. A step that passes a limit of the
-- wire closes the play: nothing is done any more.
pub record Play : Type 0 where
  pub world : World
  pub block : ℕ
  pub wire : List Letter
  pub said : List Said
  pub refused : Option Refusal
  pub closed : Option Full

abbrev pub new_play : Play
new_play = record { world = new_world; block = 1; wire = []; said = []; refused = None; closed = None }

abbrev pub say : Said → Play → Play
say x y = record y { said = y.said ++ x ∷ [] }

-- ---- one move

abbrev pub said_mark : Inc → Option Mark → List Said → List Said
said_mark i None xs = xs
said_mark i (Some m) xs = xs ++ Marked i m ∷ []

-- what is said of all that happened, oldest first
abbrev pub said_of : Past → List Said
said_of [] = []
said_of (Does i d ∷ p) = said_mark i (mark_of d) (said_of p)
said_of (Writes n x ∷ p) = said_of p ++ WroteOffline x.gtid ∷ []
said_of (x ∷ p) = said_of p

abbrev pub letter : Message → Letter
letter m = record { message = m; size = length (message_bytes m); delivered = false; lost = false }

-- the wire with the messages sent since
abbrev pub with_letters : List Letter → List Message → List Letter
with_letters xs ms = xs ++ map letter (drop (length xs) ms)

abbrev pub total : List Letter → ℕ
total [] = 0
total (x ∷ xs) = x.size + total xs

-- at most 2^20 messages and 2^30 bytes
abbrev pub is_full : List Letter → Bool
is_full xs = nat_lt (2 ^ 20) (length xs) || nat_lt (2 ^ 30) (total xs)

-- the move that made the world w; where it passes a limit of the wire, it isn't done, and the play is closed
abbrev pub moved_to : World → List Letter → Play → Play
moved_to w xs y = elim (is_full xs) [
  | false ↦ record y { world = w; wire = xs; said = y.said ++ said_of w.left }
  | true ↦ record y { closed = Some (record { messages = length xs; bytes = total xs }) }
]

abbrev pub moved : World → Play → Play
moved w y = moved_to w (with_letters y.wire w.sent) y

unfoldable pub plays : Move → Play → Play
plays m y = elim (y.closed) [ Some f ↦ y | None ↦ moved (move m y.world) y ]

abbrev pub event : ℕ → Event → Play → Play
event n e y = plays (Happens n e) y

-- ---- the founding

-- a founder that wasn't declared gets the default UUID, version 8.0.36 and weight 50
abbrev pub founder_by : ℕ → Option Server → Joiner
founder_by n (Some s) = joiner_of s 1
founder_by n None = record { inc = record { server = n; start = 1 }; uuid = default_uuid n; version = 8 ∷ 0 ∷ 36 ∷ []; weight = 50 }

abbrev pub with_joiner : List Joiner → Joiner → List Joiner
with_joiner [] j = j ∷ []
with_joiner (x ∷ xs) j = elim (nat_lt j.inc.server x.inc.server) [ true ↦ j ∷ x ∷ xs | false ↦ x ∷ with_joiner xs j ]

-- ascending
abbrev pub founders : World → List ℕ → List Joiner
founders w [] = []
founders w (n ∷ ns) = with_joiner (founders w ns) (founder_by n (server_at w n))

abbrev pub setup_of : List ℕ → Mode → ℕ → ℕ → ℕ → List ℕ → Play → Setup
setup_of g m h e q ns y = record { limits = record { group = g; horizon = h; expel = e; majority = q; block = y.block }; mode = m; founders = founders y.world ns }

-- ---- ticks

abbrev pub tick_times : ℕ → ℕ → Play → Play
tick_times n zero y = y
tick_times n (suc k) y = tick_times n k (event n Ticks y)

-- ---- a transaction of one statement

abbrev pub phase_of : Option Member → ℕ → Phase
phase_of None s = Free
phase_of (Some a) s = phase a.life s

-- the statement was answered Changed
abbrev pub has_changed : Past → Bool
has_changed [] = false
has_changed (Does i (Changed s c) ∷ p) = true
has_changed (x ∷ p) = has_changed p

abbrev pub request_of : Item → ChangeKind → Request
request_of i (Inserts v) = Insert i v
request_of i (Updates v) = Update i v
request_of i Deletes = Delete i

-- where the statement is refused, a rollback takes the place of the commit
abbrev pub once_end : ℕ → ℕ → Play → Play
once_end n s y = elim (has_changed y.world.left) [ true ↦ event n (Calls s Commit) y | false ↦ event n (Calls s Rollback) y ]

-- where the begin isn't Begun in its own step, the other calls aren't made
abbrev pub once_rest : ℕ → ℕ → Request → Play → Play
once_rest n s r y = elim (is_active (phase_of (member_at y.world n) s)) [ true ↦ once_end n s (event n (Calls s r) y) | false ↦ y ]

abbrev pub once : ℕ → ℕ → Change → Play → Play
once n s c y = once_rest n s (request_of c.item c.what) (event n (Calls s (Begin Eventual 1)) y)

-- ---- the wire

abbrev pub letter_at : List Letter → ℕ → Option Letter
letter_at [] k = None
letter_at (x ∷ xs) zero = None
letter_at (x ∷ xs) (suc k) = elim (k == 0) [ true ↦ Some x | false ↦ letter_at xs k ]

abbrev pub set_letter : List Letter → ℕ → (Letter → Letter) → List Letter
set_letter [] k f = []
set_letter (x ∷ xs) zero f = x ∷ xs
set_letter (x ∷ xs) (suc k) f = elim (k == 0) [ true ↦ f x ∷ xs | false ↦ x ∷ set_letter xs k f ]

abbrev pub deliver : ℕ → Play → Play
deliver k y = plays (Takes k) (record y { wire = set_letter y.wire k (λ x. record x { delivered = true }) })

abbrev pub lose : ℕ → Play → Play
lose k y = record y { wire = set_letter y.wire k (λ x. record x { lost = true }) }

-- between servers of this list; the empty list stands for all
abbrev pub is_among : List ℕ → Message → Bool
is_among [] m = true
is_among (n ∷ ns) m = list_any (λ x. x == m.from.server) (n ∷ ns) && list_any (λ x. x == m.to.server) (n ∷ ns)

-- a message that was never delivered, isn't lost and whose addressee runs
abbrev pub is_next : World → List ℕ → Letter → Bool
is_next w ns x = elim (x.delivered || x.lost) [ true ↦ false | false ↦ is_among ns x.message && runs w x.message.to ]

-- the least such one, from number k on
abbrev pub next_letter : World → List ℕ → ℕ → List Letter → Option ℕ
next_letter w ns k [] = None
next_letter w ns k (x ∷ xs) = elim (is_next w ns x) [ true ↦ Some k | false ↦ next_letter w ns (suc k) xs ]

abbrev pub settle_times : List ℕ → ℕ → Play → Play
settle_times ns zero y = y
settle_times ns (suc f) y = elim (next_letter y.world ns 1 y.wire) [ None ↦ y | Some k ↦ settle_times ns f (deliver k y) ]

-- the least message is delivered, until there is none (the wire holds at most 2^20, and each is delivered once)
unfoldable pub settle : List ℕ → Play → Play
settle ns y = settle_times ns (2 ^ 20) y

-- ---- workers

abbrev pub waiting_at : Member → List Cert
waiting_at a = waiting a.life (queue a.life a.me.inc)

abbrev pub body_at : Option Cert → Option (List ℕ)
body_at None = None
body_at (Some c) = Some (body_bytes (HasTxn c.txn))

-- the result of a queued place; where the place isn't queued, it is the place alone
abbrev pub work_at : ℕ → ℕ → Member → Play → Play
work_at n p a y = event n (Works p (body_at (at_place (queue a.life a.me.inc) p))) y

abbrev pub work_least : ℕ → Member → List Cert → Play → Play
work_least n a [] y = say (Idle a.me.inc) y
work_least n a (c ∷ cs) y = work_at n c.place a y

abbrev pub work_by : ℕ → Option ℕ → Option Member → Play → Play
work_by n p None y = y
work_by n None (Some a) y = work_least n a (waiting_at a) y
work_by n (Some p) (Some a) y = work_at n p a y

-- the least member that has a place that waits
abbrev pub least_worker : List Server → Option ℕ
least_worker [] = None
least_worker (s ∷ ss) = elim (s.running) [
  | None ↦ least_worker ss
  | Some a ↦ elim (waiting_at a) [ [] ↦ least_worker ss | c ∷ cs ↦ Some s.number ]
]

abbrev pub drain_times : ℕ → Play → Play
drain_times zero y = y
drain_times (suc f) y = elim (least_worker y.world.servers) [ None ↦ y | Some n ↦ drain_times f (settle [] (work_by n None (member_at y.world n) y)) ]

-- all is settled, then the least place of that member is worked, again and again
unfoldable pub drain : Play → Play
drain y = drain_times (2 ^ 42) (settle [] y)

-- ---- looks

abbrev pub look : (Member → Look) → Option Member → Play → Play
look f None y = y
look f (Some a) y = say (Looked (f a)) y

abbrev pub look_at : (Member → Look) → ℕ → Play → Play
look_at f n y = look f (member_at y.world n) y

-- the byte of a message's kind
abbrev pub wire_kind : Wire → ℕ
wire_kind (Prepare b s) = 1
wire_kind (Promise b s xs) = 2
wire_kind (Accept b t v) = 3
wire_kind (Accepted b t) = 4
wire_kind (Learn t v) = 5
wire_kind (Offer v) = 6
wire_kind (Greet w) = 7
wire_kind (Asks a) = 8
wire_kind (Gives g) = 9
wire_kind (Alive n) = 10
wire_kind Gone = 11

abbrev pub wire_lines : ℕ → List Letter → List WireLine
wire_lines k [] = []
wire_lines k (x ∷ xs) = elim (x.delivered || x.lost) [ true ↦ wire_lines (suc k) xs | false ↦ record { number = k; from = x.message.from; to = x.message.to; kind = wire_kind x.message.wire } ∷ wire_lines (suc k) xs ]

-- ---- what each step does

abbrev pub does : Step → Play → Play
does (DeclareServer n u v g) y = plays (Declares n u v g) y
does (Block k) y = record y { block = k }
does (Found g m h e q ns) y = plays (Founds (setup_of g m h e q ns y)) y
does (Session n s r) y = event n (Calls s r) y
does (Once n s c) y = once n s c y
does (Operate n o) y = event n (Operates o) y
does (Deliver k) y = deliver k y
does (Lose k) y = lose k y
does (Settle ns) y = settle ns y
does (Work n p) y = work_by n p (member_at y.world n) y
does Drain y = drain y
does (Tick n k) y = tick_times n k y
does (Start n via) y = plays (Starts n via) y
does (Stop n) y = plays (Stops n) y
does (WriteOffline n i r) y = plays (WritesRow n i r) y
does (ShowMembers n) y = look_at show_members n y
does (ShowSlots n) y = look_at show_slots n y
does (ShowConfig n t) y = look_at (show_config t) n y
does (ShowGtids n) y = look_at show_gtids n y
does (ShowRows n) y = look_at show_rows n y
does (ShowQueue n) y = look_at show_queue n y
does (ShowCertifier n) y = look_at show_certifier n y
does (ShowKept n) y = look_at show_kept n y
does ShowWire y = say (Looked (OnWire (wire_lines 1 y.wire) (length y.wire))) y
does (FinishThreads n) y = event n (Operates Finish) y

-- ---- refusals

abbrev pub meets_declared : Step → World → Bool
meets_declared (DeclareServer n u v g) w = is_taken n u w
meets_declared (Found g m h e q ns) w = is_group_taken g w
meets_declared x w = false

-- the servers that have to be declared
abbrev pub names : Step → List ℕ
names (Session n s r) = n ∷ []
names (Once n s c) = n ∷ []
names (Operate n o) = n ∷ []
names (Settle ns) = ns
names (Work n p) = n ∷ []
names (Tick n k) = n ∷ []
names (Start n via) = n ∷ via ∷ []
names (Stop n) = n ∷ []
names (WriteOffline n i r) = n ∷ []
names (ShowMembers n) = n ∷ []
names (ShowSlots n) = n ∷ []
names (ShowConfig n t) = n ∷ []
names (ShowGtids n) = n ∷ []
names (ShowRows n) = n ∷ []
names (ShowQueue n) = n ∷ []
names (ShowCertifier n) = n ∷ []
names (ShowKept n) = n ∷ []
names (FinishThreads n) = n ∷ []
names x = []

-- the servers that have to run
abbrev pub needs_running : Step → List ℕ
needs_running (Settle ns) = []
needs_running (Start n via) = via ∷ []
needs_running (WriteOffline n i r) = []
needs_running x = names x

-- a server that may not run does
abbrev pub is_in_use : Step → World → Bool
is_in_use (Start n via) w = is_running w n
is_in_use (WriteOffline n i r) w = is_running w n
is_in_use x w = false

abbrev pub letter_refusal : ℕ → Option Letter → Option Refusal
letter_refusal k None = Some (NoMessage k)
letter_refusal k (Some x) = elim (x.lost) [ true ↦ Some (MessageLost k) | false ↦ None ]

abbrev pub wire_refusal : Step → Play → Option Refusal
wire_refusal (Deliver k) y = letter_refusal k (letter_at y.wire k)
wire_refusal (Lose k) y = letter_refusal k (letter_at y.wire k)
wire_refusal x y = None

abbrev pub has_addressee : World → Option Letter → Bool
has_addressee w None = false
has_addressee w (Some x) = runs w x.message.to

-- all run that have to
abbrev pub all_run : Step → Play → Bool
all_run (Deliver k) y = has_addressee y.world (letter_at y.wire k)
all_run x y = list_all (is_running y.world) (needs_running x)

-- why a step is refused: the first of these
abbrev pub refusal : Step → Play → Option Refusal
refusal x y = elim (meets_declared x y.world) [
  | true ↦ Some Declared
  | false ↦ elim (list_all (is_declared y.world) (names x)) [
    | false ↦ Some NoServer
    | true ↦ elim (is_in_use x y.world) [
      | true ↦ Some AlreadyRunning
      | false ↦ elim (wire_refusal x y) [
        | Some r ↦ Some r
        | None ↦ elim (all_run x y) [ false ↦ Some NoMember | true ↦ None ]
      ]
    ]
  ]
]

-- a step that is refused changes nothing
abbrev pub apply_to : Step → Play → Play
apply_to x y = elim (refusal x y) [ Some r ↦ record y { refused = Some r } | None ↦ does x y ]

unfoldable pub apply : Step → Play → Play
apply x y = elim (y.closed) [ Some f ↦ y | None ↦ apply_to x (record y { said = []; refused = None }) ]

-- the play after these steps; it stays that before a step that passes a limit
abbrev pub run_from : List Step → Play → Play
run_from [] y = y
run_from (x ∷ xs) y = let z : Play = apply x y in elim (z.closed) [ None ↦ run_from xs z | Some f ↦ y ]

-- the run of a script
unfoldable pub run : List Step → Play
run xs = run_from xs new_play
