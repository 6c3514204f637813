-- The world: servers and their incarnations, the messages ever sent, and all that ever happened; and the moves that a run consists of.
-- A message may be taken any number of times and in any order, or never.
use Rattle.std.specs.Prelude.{ℕ, zero, suc, ◌+◌, ◌-◌, ◌*◌, ◌/◌, ◌%◌, Bool, true, false, ◌&&◌, ◌||◌, not, Option, Some, None, List, [], ◌∷◌, ◌++◌, nat_lt, ◌==◌, length, map, filter, replicate, take, slice_get, is_some}
use Rattle.std.specs.List.{list_any, find}
use Rattle.gr_ids.specs.Names.{inc_eq, bytes_eq, gtid_eq}
use Rattle.gtid_sets.specs.Sets.{with_gtid}
use Rattle.group_rules.specs.Names.{Inc, Gtid, Item, Joiner, Message}
use Rattle.group_rules.specs.Events.{Did, Committed, Event, Hears, Life, Setup, Stored, Cert, OfflineWrite}
use Rattle.group_rules.specs.Life.{executed, certs, stored}
use Rattle.group_rules.specs.Member.{Member}
use Rattle.group_rules.specs.Steps.{step, found, start}
use Rattle.group_rules.specs.Histories.{arranged}

-- ---- the world

-- a server: how often it was started, what it stored when its last incarnation stopped, and the incarnation that runs
pub record Server : Type 0 where
  pub number : ℕ
  pub uuid : List ℕ
  pub version : List ℕ
  pub weight : ℕ
  pub starts : ℕ
  pub stored : Stored
  pub running : Option Member

-- what happened somewhere in the world
pub data Happening : Type 0 where
  Does : (who : Inc) (did : Did) → Happening
  Writes : (server : ℕ) (write : OfflineWrite) → Happening
  Halts : (server : ℕ) → Happening

-- newest first
abbrev pub Past : Type 0
Past = List Happening

-- The servers stand by ascending number, the messages in the order sent. `past` is all that happened, and `left` what the last move left of it.
pub record World : Type 0 where
  pub setup : Option Setup
  pub servers : List Server
  pub sent : List Message
  pub left : Past
  pub past : Past

abbrev pub new_world : World
new_world = record { setup = None; servers = []; sent = []; left = []; past = [] }

-- what happened to one incarnation
abbrev pub life_in : Past → Inc → Life
life_in [] i = []
life_in (Does j d ∷ p) i = elim (inc_eq j i) [ true ↦ d ∷ life_in p i | false ↦ life_in p i ]
life_in (x ∷ p) i = life_in p i

-- ---- readers

abbrev pub nothing_stored : Stored
nothing_stored = record { executed = []; committed = []; writes = [] }

abbrev pub with_server : List Server → Server → List Server
with_server [] s = s ∷ []
with_server (x ∷ xs) s = elim (x.number == s.number) [ true ↦ s ∷ xs | false ↦ elim (nat_lt s.number x.number) [ true ↦ s ∷ x ∷ xs | false ↦ x ∷ with_server xs s ] ]

abbrev pub put_server : Server → World → World
put_server s w = record w { servers = with_server w.servers s }

abbrev pub server_at : World → ℕ → Option Server
server_at w n = find (λ s. s.number == n) w.servers

abbrev pub is_declared : World → ℕ → Bool
is_declared w n = list_any (λ s. s.number == n) w.servers

abbrev pub running_of : Option Server → Option Member
running_of None = None
running_of (Some s) = s.running

-- the incarnation that runs at a server
abbrev pub member_at : World → ℕ → Option Member
member_at w n = running_of (server_at w n)

abbrev pub is_running : World → ℕ → Bool
is_running w n = is_some (member_at w n)

abbrev pub is_member : Option Member → Inc → Bool
is_member None i = false
is_member (Some a) i = inc_eq a.me.inc i

-- the incarnation runs
abbrev pub runs : World → Inc → Bool
runs w i = is_member (member_at w i.server) i

abbrev pub joiner_of : Server → ℕ → Joiner
joiner_of s k = record { inc = record { server = s.number; start = k }; uuid = s.uuid; version = s.version; weight = s.weight }

-- ---- UUIDs

-- 00000000-0000-0000-0000-0000000000nn, nn being the number in two decimal digits
abbrev pub default_uuid : ℕ → List ℕ
default_uuid n = replicate 15 0 ++ ((n / 10) * 16 + (n % 10)) ∷ []

-- that of a server with a number of at most k, other than n
abbrev pub is_default_of_other : List ℕ → ℕ → ℕ → Bool
is_default_of_other u n zero = false
is_default_of_other u n (suc k) = (not (suc k == n) && bytes_eq (default_uuid (suc k)) u) || is_default_of_other u n k

abbrev pub has_uuid : World → List ℕ → Bool
has_uuid w u = list_any (λ s. bytes_eq s.uuid u) w.servers

abbrev pub is_group : Option Setup → List ℕ → Bool
is_group None u = false
is_group (Some s) u = bytes_eq s.limits.group u

-- the number or the UUID is declared, or the UUID is the group's or the default of another number
abbrev pub is_taken : ℕ → List ℕ → World → Bool
is_taken n u w = is_declared w n || (has_uuid w u || (is_group w.setup u || is_default_of_other u n 32))

-- the UUID is declared or a default
abbrev pub is_group_taken : List ℕ → World → Bool
is_group_taken g w = has_uuid w g || is_default_of_other g 0 32

-- ---- what a server keeps

-- the committed transactions, in the order of their commits
abbrev pub committed_of : Life → List Cert → List Cert
committed_of [] cs = []
committed_of (Committed g ∷ l) cs = committed_of l cs ++ filter (λ c. gtid_eq c.gtid g) cs
committed_of (_ ∷ l) cs = committed_of l cs

-- an incarnation that stops leaves to its server what it has executed and committed; the offline writes stay
abbrev pub stored_by : Stored → Option Member → Stored
stored_by x None = x
stored_by x (Some a) = record { executed = executed a.life; committed = (stored a.life).committed ++ committed_of a.life (certs a.life); writes = x.writes }

-- ---- moves

-- this happened, newest first
abbrev pub happens : Past → World → World
happens p w = record w { left = p; past = p ++ w.past }

abbrev pub nothing_happens : World → World
nothing_happens w = record w { left = [] }

abbrev pub dids : Inc → Life → Past
dids i l = map (λ d. Does i d) l

abbrev pub declare : ℕ → List ℕ → List ℕ → ℕ → World → World
declare n u v g w = put_server (record { number = n; uuid = u; version = v; weight = g; starts = 0; stored = nothing_stored; running = None }) w

-- a founder is the first start of its server
abbrev pub found_at : Setup → Joiner → World → World
found_at t j w =
    let a : Member = found t j in
    put_server (record { number = j.inc.server; uuid = j.uuid; version = j.version; weight = j.weight; starts = 1; stored = nothing_stored; running = Some a }) (record w { left = dids j.inc a.life ++ w.left; past = dids j.inc a.life ++ w.past })

abbrev pub found_all : Setup → List Joiner → World → World
found_all t [] w = w
found_all t (j ∷ js) w = found_all t js (found_at t j w)

abbrev pub started : Setup → Server → Member → World → World
started t s via w =
    let j : Joiner = joiner_of s (suc s.starts) in
    let a : Member = start t j s.stored via.me.inc in
    happens (dids j.inc a.life) (put_server (record s { starts = suc s.starts; running = Some a }) (record w { sent = w.sent ++ a.sent }))

-- the server's next incarnation starts, if none runs, and sends its Add to the one that runs at another server
abbrev pub start_by : Option Setup → Option Server → Option Member → World → World
start_by (Some t) (Some s) (Some via) w = elim (is_some s.running) [ true ↦ nothing_happens w | false ↦ started t s via w ]
start_by t s via w = nothing_happens w

abbrev pub stop : Option Server → World → World
stop None w = nothing_happens w
stop (Some s) w = happens (Halts s.number ∷ []) (put_server (record s { stored = stored_by s.stored s.running; running = None }) w)

-- the row is written under the server's own UUID and next number
abbrev pub written : Item → List ℕ → Server → World → World
written i r s w =
    let g : Gtid = record { source = s.uuid; number = suc (length s.stored.writes) } in
    let x : OfflineWrite = record { gtid = g; item = i; row = r } in
    let y : Stored = record { executed = with_gtid s.stored.executed g; committed = s.stored.committed; writes = s.stored.writes ++ x ∷ [] } in
    happens (Writes s.number x ∷ []) (put_server (record s { stored = y }) w)

abbrev pub write_by : Item → List ℕ → Option Server → World → World
write_by i r None w = nothing_happens w
write_by i r (Some s) w = elim (is_some s.running) [ true ↦ nothing_happens w | false ↦ written i r s w ]

abbrev pub put_member : Server → Member → World → World
put_member s b w = put_server (record s { running = Some b }) w

-- an event at the incarnation that runs at the server: what it leaves happens, and its messages are sent
abbrev pub stepped : Server → Member → Member → World → World
stepped s a b w = happens (dids a.me.inc (take (length b.life - length a.life) b.life)) (put_member s b (record w { sent = w.sent ++ arranged b.sent }))

abbrev pub event_by : Event → Server → Option Member → World → World
event_by e s None w = nothing_happens w
event_by e s (Some a) w = stepped s a (step e a) w

abbrev pub event_at : Event → Option Server → World → World
event_at e None w = nothing_happens w
event_at e (Some s) w = event_by e s s.running w

abbrev pub take_message : Option Message → World → World
take_message None w = nothing_happens w
take_message (Some m) w = elim (runs w m.to) [ true ↦ event_at (Hears m) (server_at w m.to.server) w | false ↦ nothing_happens w ]

-- What may happen next. An event at a server is one of its incarnation that runs; before the founding servers are declared, and nothing else happens.
pub data Move : Type 0 where
  Declares : (number : ℕ) (uuid version : List ℕ) (weight : ℕ) → Move
  Founds : (setup : Setup) → Move
  Starts : (server via : ℕ) → Move
  Stops : (server : ℕ) → Move
  WritesRow : (server : ℕ) (item : Item) (row : List ℕ) → Move
  -- the k-th message sent, from 1, is taken by its addressee
  Takes : (k : ℕ) → Move
  Happens : (server : ℕ) (event : Event) → Move

abbrev pub kth : {A : Type 0} → List A → ℕ → Option A
kth xs zero = None
kth xs (suc k) = slice_get xs k

-- a move that may not be made leaves the world as it is
unfoldable pub move : Move → World → World
move (Declares n u v g) w = elim (is_taken n u w) [ true ↦ nothing_happens w | false ↦ nothing_happens (declare n u v g w) ]
move (Founds t) w = elim (is_some w.setup || is_group_taken t.limits.group w) [ true ↦ nothing_happens w | false ↦ found_all t t.founders (nothing_happens (record w { setup = Some t })) ]
move (Starts n via) w = start_by w.setup (server_at w n) (member_at w via) w
move (Stops n) w = stop (server_at w n) w
move (WritesRow n i r) w = elim (is_some w.setup) [ true ↦ write_by i r (server_at w n) w | false ↦ nothing_happens w ]
move (Takes k) w = take_message (kth w.sent k) w
move (Happens n (Hears m)) w = nothing_happens w
move (Happens n e) w = event_at e (server_at w n) w

-- the world after these moves, newest first
abbrev pub world_after : List Move → World
world_after [] = new_world
world_after (m ∷ ms) = move m (world_after ms)
