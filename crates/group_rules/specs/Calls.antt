-- The answer to each session call, in the order of the checks.
-- (MySQL 8.0 Reference Manual: START TRANSACTION, COMMIT, ROLLBACK; Group Replication, Single-Primary Mode and Transaction Consistency Guarantees. The order and the words are this project's own.)
use Rattle.std.specs.Prelude.{ℕ, ◌+◌, ◌-◌, ◌^◌, Bool, true, false, ◌&&◌, ◌||◌, not, Option, Some, None, List, [], ◌∷◌, length, min, nat_lt, nat_le, ◌==◌}
use Rattle.gr_ids.specs.Names.{is_inc}
use Rattle.key_items.specs.Items.{with_item}
use Rattle.group_rules.specs.Names.{ValueId, Gtid, Item, Change, ChangeKind, Inserts, Updates, Deletes, Txn, Part, Writes, Sync, PartOf, Says, Level, MemberState, Offline, Request, Begin, Get, Insert, Update, Delete, Commit, Rollback, Holder, Answer, Got, Sent, CommittedEmpty, RolledBack, Busy, NoTransaction, NotOnline, ReadOnly, RowLocked, DuplicateKey, NoRow, Killed, MemberLeft, TooLarge}
use Rattle.txn_forms.specs.Bodies.{body_bytes}
use Rattle.group_rules.specs.View.{is_single}
use Rattle.group_rules.specs.Events.{Called, Changed, AsksCommit}
use Rattle.group_rules.specs.Life.{state, is_up, executed, view, last_made}
use Rattle.txn_forms.specs.Parts.{whole_bytes, most_bytes}
use Rattle.group_rules.specs.Parts.{cut}
use Rattle.group_rules.specs.Sessions.{Phase, Free, Holding, Active, Asking, phase, Call, last_call, changes}
use Rattle.group_rules.specs.Keys.{killed, was_left, holder}
use Rattle.group_rules.specs.Rows.{fits, row_now, row_then}
use Rattle.group_rules.specs.Holds.{has_sync, is_after}
use Rattle.group_rules.specs.Member.{Member, push, own, own_body, answer, last_answer, for_each}

-- ---- begin

-- the levels that want their member ONLINE
abbrev pub wants_online : Level → Bool
wants_online v = has_sync v || is_after v

abbrev pub send_sync : Level → Member → Member
send_sync v a = elim (has_sync v) [ true ↦ own_body Sync a | false ↦ a ]

abbrev pub begin : ℕ → Level → ℕ → Member → Member
begin s v w a = elim (wants_online v && not (is_up (state a.life))) [
  | true ↦ answer s (NotOnline (state a.life)) a
  | false ↦ send_sync v (push (Called s v w) a)
]

-- ---- statements

-- the own state at the begin call of the transaction
abbrev pub state_then : Option Call → MemberState
state_then None = Offline
state_then (Some c) = state c.past

-- single-primary mode, and this one isn't the primary
abbrev pub is_read_only : Member → Bool
is_read_only a = let w = view a.setup a.life in is_single w.mode && not (is_inc w.primary a.me.inc)

abbrev pub read_only : Member → Answer
read_only a = ReadOnly ((view a.setup a.life).primary)

-- an insert finds the row; an update or delete finds none
abbrev pub misfit : ChangeKind → Answer
misfit (Inserts v) = DuplicateKey
misfit k = NoRow

abbrev pub change_row : ℕ → Change → Member → Member
change_row s c a = elim (fits c.what (row_now a.life s c.item)) [ true ↦ push (Changed s c) a | false ↦ answer s (misfit c.what) a ]

abbrev pub unless_locked : ℕ → Change → Option Holder → Member → Member
unless_locked s c None a = change_row s c a
unless_locked s c (Some h) a = answer s (RowLocked h) a

abbrev pub statement : ℕ → Change → Member → Member
statement s c a =
    let x = state_then (last_call a.life s) in
    elim (is_up x) [
      | false ↦ answer s (NotOnline x) a
      | true ↦ elim (is_read_only a) [
        | true ↦ answer s (read_only a) a
        | false ↦ unless_locked s c (holder a.life a.me.inc s c.item) a
      ]
    ]

-- ---- commit

abbrev pub items_of : List Change → List Item
items_of [] = []
items_of (c ∷ cs) = with_item (items_of cs) c.item

abbrev pub is_after_call : Option Call → Bool
is_after_call None = false
is_after_call (Some c) = is_after c.level

-- the transaction of the session, as its commit sends it: its snapshot is the executed set of now, its write set the items of its changes
abbrev pub txn_of : ℕ → Member → Txn
txn_of s a = record { after = is_after_call (last_call a.life s); snapshot = executed a.life; items = items_of (changes a.life s); changes = changes a.life s }

-- the place of the last part is to hold the whole transaction
abbrev pub own_part : Txn → Part → Member → Member
own_part t p a = own (Says (body_bytes (PartOf p))) (Some (elim (p.index == p.count) [ true ↦ Writes t | false ↦ PartOf p ])) a

-- the commit is asked as the value with this number, the last of those that send it
abbrev pub ask_commit : ℕ → ℕ → (Member → Member) → Member → Member
ask_commit s n send a = let i : ValueId = record { origin = a.me.inc; number = n } in answer s (Sent i) (send (push (AsksCommit s i) a))

abbrev pub send_parts : ℕ → Txn → List Part → Member → Member
send_parts s t ps a = ask_commit s (last_made a.life + length ps) (for_each (own_part t) ps) a

abbrev pub send_txn : ℕ → Txn → List ℕ → Member → Member
send_txn s t b a = elim (nat_le (length b) whole_bytes) [ true ↦ ask_commit s (last_made a.life + 1) (own (Says b) (Some (Writes t))) a | false ↦ send_parts s t (cut b) a ]

abbrev pub commit_bytes : ℕ → Txn → List ℕ → Member → Member
commit_bytes s t b a = elim (nat_lt most_bytes (length b)) [ true ↦ last_answer s (TooLarge (min (length b) (2 ^ 64 - 1))) a | false ↦ send_txn s t b a ]

abbrev pub commit_changes : ℕ → List Change → Member → Member
commit_changes s [] a = last_answer s CommittedEmpty a
commit_changes s (c ∷ cs) a = elim (is_read_only a) [
  | true ↦ last_answer s (read_only a) a
  | false ↦ let t : Txn = txn_of s a in commit_bytes s t (body_bytes (Writes t)) a
]

-- ---- a call

-- of a session with an active transaction
abbrev pub in_transaction : ℕ → Request → Member → Member
in_transaction s (Begin v w) a = answer s Busy a
in_transaction s (Get i) a = answer s (Got (row_then a.life s i)) a
in_transaction s (Insert i r) a = statement s (record { item = i; what = Inserts r }) a
in_transaction s (Update i r) a = statement s (record { item = i; what = Updates r }) a
in_transaction s (Delete i) a = statement s (record { item = i; what = Deletes }) a
in_transaction s Commit a = commit_changes s (changes a.life s) a
in_transaction s Rollback a = last_answer s RolledBack a

abbrev pub without_transaction : ℕ → Request → Member → Member
without_transaction s (Begin v w) a = begin s v w a
without_transaction s r a = answer s NoTransaction a

abbrev pub by_phase : ℕ → Request → Phase → Member → Member
by_phase s r Free a = without_transaction s r a
by_phase s r Holding a = answer s Busy a
by_phase s r Active a = in_transaction s r a
by_phase s r (Asking i) a = answer s Busy a

-- a transaction that was killed, or that was active when this member took ERROR, ends with the answer to the next call
abbrev pub unless_killed : ℕ → Request → Option Gtid → Member → Member
unless_killed s r (Some g) a = last_answer s (Killed g) a
unless_killed s r None a = elim (was_left a.life s) [ true ↦ last_answer s MemberLeft a | false ↦ by_phase s r (phase a.life s) a ]

unfoldable pub call : ℕ → Request → Member → Member
call s r a = unless_killed s r (killed a.life s) a
