-- Which sessions have a transaction, ascending, and where each one's stands.
use Rattle.std.specs.Prelude.{ℕ, Bool, true, false, ◌&&◌, not, Option, Some, None, List, [], ◌∷◌, ◌++◌, filter, nat_lt, ◌==◌, if◌then◌else◌}
use Rattle.std.specs.List.{find}
use Rattle.gr_ids.specs.declared.levels.MemberState.{MemberState}
use Rattle.gtid_sets.specs.Sets.{Gtids}
use Rattle.key_items.specs.declared.change.Change.{Change}
pub use Rattle.local_sessions.specs.declared.session.Session.{Session}
pub use Rattle.local_sessions.specs.declared.session.Stage.{Stage}
pub use Rattle.local_sessions.specs.declared.session.Stage.TheVariants.{Holding, Active, Killed as WasKilled, Left as WasLeft, Asked, Asking}

abbrev pub is_of : ℕ → Session → Bool
is_of s x = x.session == s

-- the session's, if it has a transaction
abbrev pub session_in : List Session → ℕ → Option Session
session_in xs s = find (is_of s) xs

-- each session is above the one before it
abbrev pub ascend : List Session → Bool
ascend [] = true
ascend (x ∷ []) = true
ascend (x ∷ y ∷ ys) = nat_lt x.session y.session && ascend (y ∷ ys)

-- ---- stages

abbrev pub stage_of : Option Session → Option Stage
stage_of None = None
stage_of (Some x) = Some x.stage

-- it has begun, and its commit isn't asked: it reads and writes, or its next call says that it ended
abbrev pub is_open : Option Stage → Bool
is_open (Some Active) = true
is_open (Some (WasKilled g)) = true
is_open (Some WasLeft) = true
is_open x = false

-- its begin is held
abbrev pub is_held : Option Session → Bool
is_held None = false
is_held (Some x) = elim x.stage [ Holding ↦ true | Active ↦ false | WasKilled g ↦ false | WasLeft ↦ false | Asked ↦ false | Asking i ↦ false ]

-- its commit is asked and has no identity yet
abbrev pub is_asked : Option Session → Bool
is_asked None = false
is_asked (Some x) = elim x.stage [ Holding ↦ false | Active ↦ false | WasKilled g ↦ false | WasLeft ↦ false | Asked ↦ true | Asking i ↦ false ]

-- ---- changes of the list

-- put among the others, ascending
abbrev pub with_session : List Session → Session → List Session
with_session [] x = x ∷ []
with_session (y ∷ ys) x = if nat_lt x.session y.session then x ∷ y ∷ ys else y ∷ with_session ys x

-- the session's is changed
abbrev pub changed_at : ℕ → (Session → Session) → List Session → List Session
changed_at s f [] = []
changed_at s f (x ∷ xs) = if is_of s x then f x ∷ xs else x ∷ changed_at s f xs

-- the session has none any more
abbrev pub without : ℕ → List Session → List Session
without s xs = filter (λ x. not (is_of s x)) xs

-- ---- changes of one

-- a begin that is held
abbrev pub new_hold : ℕ → Bool → MemberState → Session
new_hold s after state = record { session = s; after = after; state = state; stage = Holding; set = []; changes = [] }

abbrev pub at_stage : Stage → Session → Session
at_stage g x = record x { stage = g }

-- it begins, and reads this set
abbrev pub begins : Gtids → Session → Session
begins e x = record x { stage = Active; set = e }

abbrev pub with_change : Change → Session → Session
with_change c x = record x { changes = x.changes ++ c ∷ [] }

-- its body is made of its changes
abbrev pub asks : Session → Session
asks x = record x { stage = Asked; changes = [] }
