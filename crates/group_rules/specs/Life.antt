-- What follows from a history: the state, the executed set, the entries taken and the view after them, own values.
use Rattle.std.specs.Prelude.{ℕ, suc, Bool, true, false, ◌&&◌, Option, Some, None, List, [], ◌∷◌, ◌++◌, reverse, map, ◌==◌}
use Rattle.gr_ids.specs.Names.{inc_eq}
use Rattle.gtid_sets.specs.Sets.{Gtids, with_gtid}
use Rattle.group_rules.specs.Names.{Inc, ValueId, MemberState, Offline, Recovering, Online, Error, Body, Writes, Arrives, Effect, Positive, Welcome, WelcomeMember}
use Rattle.group_rules.specs.View.{View, no_view, founding, next_view}
use Rattle.group_rules.specs.Events.{Founds, Starts, Came, Made, Took, Committed, Is, Enters, Restores, Life, Entry, Cert, Stored, Setup, Ticks}

-- its own state: that of its last State mark
abbrev pub state : Life → MemberState
state [] = Offline
state (Is s c ∷ l) = s
state (_ ∷ l) = state l

abbrev pub is_up : MemberState → Bool
is_up Online = true
is_up _ = false

abbrev pub is_error : MemberState → Bool
is_error Error = true
is_error _ = false

abbrev pub is_recovering : MemberState → Bool
is_recovering Recovering = true
is_recovering _ = false

abbrev pub is_offline : MemberState → Bool
is_offline Offline = true
is_offline _ = false

-- the set that it started with, and the GTIDs that it committed
abbrev pub executed : Life → Gtids
executed [] = []
executed (Starts s ∷ l) = s.executed
executed (Committed g ∷ l) = with_gtid (executed l) g
executed (_ ∷ l) = executed l

-- ---- entries

-- the view that a Welcome tells
abbrev pub view_told : Welcome → View
view_told w = record { number = w.number; mode = w.mode; primary = w.primary; elected = w.elected; seats = map {A = WelcomeMember} (λ m. record { joiner = m.joiner; state = m.state }) w.members }

abbrev pub view_after : Entry → View → View
view_after e v = next_view e.place e.value.id.origin e.value.what e.holds e.effect v

-- the view after the entries taken
abbrev pub view : Setup → Life → View
view s [] = no_view
view s (Founds ∷ l) = founding s.mode s.founders
view s (Enters w ∷ l) = view_told w
view s (Took e ∷ l) = view_after e (view s l)
view s (_ ∷ l) = view s l

-- the place of the last entry taken, or of a joiner's Add before the first
abbrev pub taken : Life → ℕ
taken [] = 0
taken (Took e ∷ l) = e.place
taken (Enters w ∷ l) = w.place
taken (_ ∷ l) = taken l

-- the history up to the taking of this place
abbrev pub upto : Life → ℕ → Life
upto [] p = []
upto (Took e ∷ l) p = elim (e.place == p) [ true ↦ Took e ∷ l | false ↦ upto l p ]
upto (_ ∷ l) p = upto l p

-- the entry that it took at this place
abbrev pub entry_at : Life → ℕ → Option Entry
entry_at [] p = None
entry_at (Took e ∷ l) p = elim (e.place == p) [ true ↦ Some e | false ↦ entry_at l p ]
entry_at (_ ∷ l) p = entry_at l p

-- the place at which it took its own value of this number
abbrev pub own_place : Life → Inc → ℕ → Option ℕ
own_place [] me n = None
own_place (Took e ∷ l) me n = elim (inc_eq e.value.id.origin me && (e.value.id.number == n)) [ true ↦ Some e.place | false ↦ own_place l me n ]
own_place (_ ∷ l) me n = own_place l me n

abbrev pub is_arrival : Option Body → Bool
is_arrival (Some (Arrives s)) = true
is_arrival _ = false

-- the place of its own Online entry
abbrev pub online_place : Life → Inc → Option ℕ
online_place [] me = None
online_place (Took e ∷ l) me = elim (inc_eq e.value.id.origin me && is_arrival e.holds) [ true ↦ Some e.place | false ↦ online_place l me ]
online_place (_ ∷ l) me = online_place l me

-- ---- certified transactions, newest first

abbrev pub cert_by : ℕ → ValueId → Effect → Option Body → List Cert
cert_by p i (Positive g) (Some (Writes t)) = record { place = p; id = i; gtid = g; txn = t } ∷ []
cert_by p i _ _ = []

abbrev pub cert_of : Entry → List Cert
cert_of e = cert_by e.place e.value.id e.effect e.holds

-- those that it took or was given
abbrev pub certs : Life → List Cert
certs [] = []
certs (Restores g cs ∷ l) = reverse cs
certs (Took e ∷ l) = cert_of e ++ certs l
certs (_ ∷ l) = certs l

-- what its server had when it started
abbrev pub stored : Life → Stored
stored [] = record { executed = []; committed = []; writes = [] }
stored (Starts s ∷ l) = s
stored (_ ∷ l) = stored l

-- ---- own values

-- the number of the last one
abbrev pub last_made : Life → ℕ
last_made [] = 0
last_made (Made v x ∷ l) = v.id.number
last_made (_ ∷ l) = last_made l

-- what they hold
abbrev pub made : Life → List (Option Body)
made [] = []
made (Made v x ∷ l) = x ∷ made l
made (_ ∷ l) = made l

-- ---- ticks, and how it joined

-- its ticks
abbrev pub ticks : Life → ℕ
ticks [] = 0
ticks (Came Ticks ∷ l) = suc (ticks l)
ticks (_ ∷ l) = ticks l

-- the Welcome that it took
abbrev pub entered : Life → Option Welcome
entered [] = None
entered (Enters w ∷ l) = Some w
entered (_ ∷ l) = entered l

abbrev pub has_give : Life → Bool
has_give [] = false
has_give (Restores g cs ∷ l) = true
has_give (_ ∷ l) = has_give l
