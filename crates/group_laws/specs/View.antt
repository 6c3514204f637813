-- The members, their states, and what they told, after the entries of a list (newest first).
use Rattle.std.specs.Prelude.{ℕ, suc, Bool, true, false, cond, ◌&&◌, ◌||◌, not, List, [], ◌∷◌, Option, Some, None, length, map}
use Rattle.std.specs.List.{list_any, list_all}
use Rattle.group_rules.specs.Events.{Setup}
use Rattle.group_laws.specs.Names.{Inc, inc_eq, has_inc, Gtid, Gtids, has}
use Rattle.group_laws.specs.Entries.{Body, Executed, Online, Joins, Leaves, Value, cons_some}

-- how an incarnation stands; it goes through these in order, and never back
pub data Standing : Type 0 where
  Absent : Standing
  Recovering : Standing
  Active : Standing
  Gone : Standing

abbrev pub on_join : Standing → Standing
on_join Absent = Recovering
on_join s = s

abbrev pub on_online : Standing → Standing
on_online Recovering = Active
on_online s = s

abbrev pub on_leave : Standing → Standing
on_leave Recovering = Gone
on_leave Active = Gone
on_leave s = s

abbrev pub stands_after : Inc → Inc → Body → Standing → Standing
stands_after m origin (Online s) was = cond (inc_eq origin m) (on_online was) was
stands_after m origin (Joins j) was = cond (inc_eq j.inc m) (on_join was) was
stands_after m origin (Leaves j) was = cond (inc_eq j m) (on_leave was) was
stands_after m origin _ was = was

abbrev pub founders : Setup → List Inc
founders r = map (λ j. j.inc) r.founders

abbrev pub standing : Setup → List Value → Inc → Standing
standing r [] m = cond (has_inc (founders r) m) Active Absent
standing r (v ∷ p) m = stands_after m v.origin v.body (standing r p m)

abbrev pub is_active : Standing → Bool
is_active Active = true
is_active _ = false

-- ONLINE
abbrev pub active : Setup → List Value → Inc → Bool
active r p m = is_active (standing r p m)

abbrev pub is_in : Standing → Bool
is_in Recovering = true
is_in Active = true
is_in _ = false

abbrev pub member : Setup → List Value → Inc → Bool
member r p m = is_in (standing r p m)

abbrev pub joined_by : Body → Option Inc
joined_by (Joins j) = Some j.inc
joined_by _ = None

-- each incarnation that ever was a member
abbrev pub everyone : Setup → List Value → List Inc
everyone r [] = founders r
everyone r (v ∷ p) = cons_some (joined_by v.body) (everyone r p)

abbrev pub set_told : Body → Option Gtids
set_told (Executed s) = Some s
set_told (Online s) = Some s
set_told _ = None

abbrev pub first_some : {A : Type 0} → Option A → Option A → Option A
first_some (Some x) o = Some x
first_some None o = o

-- the last set that `m` told
abbrev pub told : List Value → Inc → Option Gtids
told [] m = None
told (v ∷ p) m = first_some (cond (inc_eq v.origin m) (set_told v.body) None) (told p m)

abbrev pub has_in : Option Gtids → Gtid → Bool
has_in None g = false
has_in (Some s) g = has s g

-- a member that is ONLINE counts: the last set that it told has the GTID
abbrev pub bears : Setup → List Value → Gtid → Inc → Bool
bears r p g m = not (active r p m) || has_in (told p m) g

-- the GTID is in the stable set: some member is ONLINE, and each of these has told it in its last set
abbrev pub stable : Setup → List Value → Gtid → Bool
stable r p g = list_any (active r p) (everyone r p) && list_all (bears r p g) (everyone r p)

-- the number of places before the Online entry of an ONLINE member; 0 for a founder
abbrev pub before_online : Setup → List Value → Inc → ℕ
before_online r [] m = 0
before_online r (v ∷ p) m = cond (active r (v ∷ p) m) (before_online r p m) (suc (length p))

-- the number of the last kept value of an origin
abbrev pub last_kept : List Value → Inc → ℕ
last_kept [] o = 0
last_kept (v ∷ p) o = cond (inc_eq v.origin o) v.number (last_kept p o)
