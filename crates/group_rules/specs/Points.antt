-- What happens at a point, that is after the action of a step and after each slot: commits, Prepared entries, begins, the own Online entry.
use Rattle.std.specs.Prelude.{ℕ, Bool, true, false, ◌&&◌, not, Option, Some, None, List, [], ◌∷◌}
use Rattle.std.specs.List.{list_any}
use Rattle.gr_ids.specs.Names.{id_eq}
use Rattle.group_rules.specs.Names.{CommittedAs, Prepared, Arrives}
use Rattle.group_rules.specs.Events.{Committed, Begun, Cert}
use Rattle.group_rules.specs.Life.{state, is_error, is_recovering, executed, has_give, made, is_arrival}
use Rattle.group_rules.specs.Queue.{pending, is_own}
use Rattle.group_rules.specs.Commit.{may_commit, owes_prepared}
use Rattle.group_rules.specs.Sessions.{Phase, Asking, phase, sessions, Call, last_call, is_holding}
use Rattle.group_rules.specs.Holds.{is_released, sync_told}
use Rattle.group_rules.specs.Member.{Member, push, own_body, last_answer, for_each}

-- ---- commits, in order of place, each followed by the answer of its local session

abbrev pub asks_this : Cert → Phase → Bool
asks_this c (Asking i) = id_eq i c.id
asks_this c _ = false

abbrev pub answer_commit : Cert → ℕ → Member → Member
answer_commit c s a = elim (asks_this c (phase a.life s)) [ true ↦ last_answer s (CommittedAs c.gtid) a | false ↦ a ]

abbrev pub answer_own : Cert → Member → Member
answer_own c a = elim (is_own a.me.inc c) [ true ↦ for_each (answer_commit c) (sessions a.life) a | false ↦ a ]

abbrev pub commit_one : Cert → Member → Member
commit_one c a = elim (may_commit a.setup a.life a.me.inc c) [ true ↦ answer_own c (push (Committed c.gtid) a) | false ↦ a ]

-- (one pass is enough: a local one doesn't wait for others, a remote one for earlier ones alone)
abbrev pub commit_all : Member → Member
commit_all a = for_each commit_one (pending a.life) a

-- ---- Prepared entries, by ascending place

abbrev pub prepare_one : Cert → Member → Member
prepare_one c a = elim (owes_prepared a.setup a.life a.me.inc c) [ true ↦ own_body (Prepared c.gtid) a | false ↦ a ]

abbrev pub prepare_all : Member → Member
prepare_all a = for_each prepare_one (pending a.life) a

-- ---- begins, by ascending session

abbrev pub begin_by : ℕ → Option Call → Member → Member
begin_by s None a = a
begin_by s (Some c) a = elim (is_released a.setup a.me.inc c a.life) [ true ↦ push (Begun s (executed a.life) (sync_told a.me.inc c a.life)) a | false ↦ a ]

abbrev pub begin_one : ℕ → Member → Member
begin_one s a = elim (is_holding (phase a.life s)) [ true ↦ begin_by s (last_call a.life s) a | false ↦ a ]

abbrev pub begin_all : Member → Member
begin_all a = for_each begin_one (sessions a.life) a

-- ---- the own Online entry, sent once all certified transactions that were taken or given are committed

abbrev pub unless_pending : List Cert → Member → Member
unless_pending [] a = own_body (Arrives (executed a.life)) a
unless_pending (c ∷ cs) a = a

abbrev pub arrive : Member → Member
arrive a = elim (is_recovering (state a.life) && (has_give a.life && not (list_any is_arrival (made a.life)))) [ true ↦ unless_pending (pending a.life) a | false ↦ a ]

-- in ERROR nothing is committed
unfoldable pub point : Member → Member
point a = elim (is_error (state a.life)) [ true ↦ begin_all a | false ↦ arrive (begin_all (prepare_all (commit_all a))) ]
