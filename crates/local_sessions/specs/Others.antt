-- What becomes of transactions besides their session's calls: a value is decided, a place takes keys over, the member takes ERROR.
use Rattle.std.specs.Prelude.{ℕ, Bool, true, false, ◌&&◌, Option, Some, None, List, [], ◌∷◌, ◌++◌, filter, map, nat_lt, ◌==◌, if◌then◌else◌}
use Rattle.std.specs.List.{find, list_any}
use Rattle.gr_ids.specs.Names.{id_eq}
use Rattle.gr_ids.specs.declared.names.ValueId.{ValueId}
use Rattle.gr_ids.specs.declared.names.Gtid.{Gtid}
use Rattle.group_rules.specs.declared.answers.Outcome.{Outcome}
use Rattle.group_rules.specs.declared.answers.Outcome.TheVariants.{Committed, Conflict}
use Rattle.group_rules.specs.declared.answers.Answer.{Answer}
use Rattle.group_rules.specs.declared.answers.Answer.TheVariants.{Committed as CommittedAs, Conflict as ConflictWith, MemberLeft, Undecided, NotAcknowledged}
use Rattle.row_locks.specs.Locking.{without_session}
use Rattle.local_sessions.specs.declared.told.Answered.{Answered}
use Rattle.local_sessions.specs.declared.told.TakenOwn.{TakenOwn}
use Rattle.local_sessions.specs.Standing.{Session, Stage, Holding, Active, WasKilled, WasLeft, Asked, Asking, at_stage, session_in}

-- ---- a value is decided

abbrev pub asks_at : ValueId → Stage → Bool
asks_at i Holding = false
asks_at i Active = false
asks_at i (WasKilled g) = false
asks_at i WasLeft = false
asks_at i Asked = false
asks_at i (Asking j) = id_eq j i

abbrev pub asks_for : ValueId → Session → Bool
asks_for i x = asks_at i x.stage

-- the session that waits for this value
abbrev pub asking : List Session → ValueId → Option Session
asking xs i = find (asks_for i) xs

abbrev pub answer_of : Outcome → Answer
answer_of (Committed g) = CommittedAs g
answer_of (Conflict g) = ConflictWith g

abbrev pub answered : Answer → Session → Answered
answered a x = record { session = x.session; answer = a }

-- ---- a place that is done takes keys over

-- its keys can be lost: it is active, or was when the member took ERROR
abbrev pub can_lose : Stage → Bool
can_lose Holding = false
can_lose Active = true
can_lose (WasKilled g) = false
can_lose WasLeft = true
can_lose Asked = false
can_lose (Asking i) = false

abbrev pub has_session : List ℕ → ℕ → Bool
has_session ss s = list_any (λ t. t == s) ss

-- those of these sessions whose keys can be lost are killed
abbrev pub killed_by : Gtid → List ℕ → Session → Session
killed_by g ss x = if has_session ss x.session && can_lose x.stage then at_stage (WasKilled g) x else x

abbrev pub loses : List Session → ℕ → Bool
loses xs s = elim (session_in xs s) [ None ↦ false | Some x ↦ can_lose x.stage ]

-- a session that is killed loses all its keys
abbrev pub unless_killed : List Session → List ℕ → Option ℕ → Option ℕ
unless_killed xs ss None = None
unless_killed xs ss (Some s) = if has_session ss s && loses xs s then None else Some s

-- ---- the member takes ERROR

abbrev pub unanswered : ValueId → Option TakenOwn → Answer
unanswered i None = Undecided i
unanswered i (Some t) = NotAcknowledged t.gtid

-- the own transaction of this identity, taken positive and not committed
abbrev pub taken_as : List TakenOwn → ValueId → Option TakenOwn
taken_as ts i = find (λ t. id_eq t.id i) ts

-- a held begin and a commit that is asked are answered at once
abbrev pub answer_at : List TakenOwn → Stage → Option Answer
answer_at ts Holding = Some MemberLeft
answer_at ts Active = None
answer_at ts (WasKilled g) = None
answer_at ts WasLeft = None
answer_at ts Asked = None
answer_at ts (Asking i) = Some (unanswered i (taken_as ts i))

abbrev pub answer_list : Session → Option Answer → List Answered
answer_list x None = []
answer_list x (Some a) = answered a x ∷ []

abbrev pub answers_left : List TakenOwn → List Session → List Answered
answers_left ts [] = []
answers_left ts (x ∷ xs) = answer_list x (answer_at ts x.stage) ++ answers_left ts xs

-- it has more to come: its next call, or its sending
abbrev pub remains_at : Stage → Bool
remains_at Holding = false
remains_at Active = true
remains_at (WasKilled g) = true
remains_at WasLeft = true
remains_at Asked = true
remains_at (Asking i) = false

abbrev pub remains : Session → Bool
remains x = remains_at x.stage

abbrev pub left_stage : Stage → Stage
left_stage Holding = Holding
left_stage Active = WasLeft
left_stage (WasKilled g) = WasKilled g
left_stage WasLeft = WasLeft
left_stage Asked = Asked
left_stage (Asking i) = Asking i

abbrev pub left : Session → Session
left x = at_stage (left_stage x.stage) x

-- an active transaction waits for the next call
abbrev pub sessions_left : List Session → List Session
sessions_left xs = map left (filter remains xs)

-- the sessions that are told hold nothing
abbrev pub without_told : List Answered → Option ℕ → Option ℕ
without_told [] k = k
without_told (a ∷ more) k = without_told more (without_session a.session k)

-- each answer's session is above the one before it
abbrev pub answers_ascend : List Answered → Bool
answers_ascend [] = true
answers_ascend (x ∷ []) = true
answers_ascend (x ∷ y ∷ ys) = nat_lt x.session y.session && answers_ascend (y ∷ ys)
