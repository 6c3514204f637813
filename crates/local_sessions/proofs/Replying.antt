-- The reply to each call, case by case.
use Rattle.std.proofs.Common.{◌≡◌, ℕ, Bool, true, false, ◌&&◌, not, Option, Some, None, List, [], ◌∷◌, length, refl, sym, ap, ◌∙◌}
use Rattle.std.specs.Prelude.{nat_lt}
use Rattle.gr_ids.specs.declared.names.Gtid.{Gtid}
use Rattle.gtid_sets.specs.Sets.{Gtids}
use Rattle.key_items.specs.declared.item.Item.{Item}
use Rattle.key_items.specs.declared.change.Change.{Change}
use Rattle.key_items.specs.declared.change.ChangeKind.TheVariants.{Insert as Inserts, Update as Updates, Delete as Deletes}
use Rattle.txn_forms.specs.declared.body.Txn.{Txn}
use Rattle.txn_forms.specs.declared.body.Body.TheVariants.{Txn as Writes}
use Rattle.txn_forms.specs.Bodies.{body_bytes}
use Rattle.group_rules.specs.declared.answers.Holder.{Holder}
use Rattle.group_rules.specs.declared.answers.Answer.TheVariants.{Busy, Got, Killed, MemberLeft, NotOnline, ReadOnly}
use Rattle.group_rules.specs.declared.requests.Request.{Request}
use Rattle.group_rules.specs.declared.requests.Request.TheVariants.{Begin, Get, Insert, Update, Delete, Commit, Rollback}
use Rattle.group_rules.specs.Life.{executed, is_up, state}
use Rattle.group_rules.specs.Member.{Member, answer, last_answer}
use Rattle.group_rules.specs.Sessions.{Phase, Free as IsFree, Holding as IsHolding, Active as IsActive, Asking as IsAsking, begun_set, changes, is_active, last_call, phase}
use Rattle.group_rules.specs.Keys.{holder, killed, was_left}
use Rattle.group_rules.specs.Rows.{changed_row, fits, row_now as row_now_in, row_of, row_then}
use Rattle.group_rules.specs.Calls.{begin as begin_in, change_row as change_row_in, call, commit_bytes as commit_bytes_in, commit_changes as commit_changes_in, in_transaction, is_after_call, is_read_only as is_read_only_in, items_of, state_then, statement as statement_in_rules, txn_of as txn_in, unless_killed, wants_online, without_transaction}
use Rattle.row_locks.specs.Locking.{holder_beside}
use Rattle.row_store.specs.Chains.{row_at, row_now, row_own}
use Rattle.local_sessions.specs.declared.tables.Tables.{Tables}
use Rattle.local_sessions.specs.Standing.{Session, Stage, Holding, Active, WasKilled, WasLeft, Asking, session_in, stage_of}
use Rattle.local_sessions.specs.Replies.{Reply, begin_free, bar_at, change_row, commit_bytes, commit_changes, ends, is_read_only, statement_in, stays, txn_of}
use Rattle.local_sessions.specs.Following.{LeftActive, StandFor, TablesOf, stage_in, has_changes}
use Rattle.local_sessions.specs.Acting.{after_reply, reply_to}
use Rattle.local_sessions.proofs.Active.{found_is}
use Rattle.local_sessions.proofs.Holders.{same_holder}

-- ---- what an option is, by its stage

pub nobody : (o : Option Session) → stage_of o ≡ None → o ≡ None
nobody None e = refl
nobody (Some x) e = absurd cc

somebody : (o : Option Session) (g : Stage) → stage_of o ≡ Some g → (x : Session) × ((o ≡ Some x) × (x.stage ≡ g))
somebody None g e = absurd cc
somebody (Some x) g e = (x, (refl, cc))

-- ---- calls that are barred

-- the reply of a session at a stage that bars its calls
pub barred : (at : Tables) (o : Option Session) (r : Request) (g : Stage) (q : Reply) → stage_of o ≡ Some g → bar_at g ≡ Some q → reply_to at o r ≡ q
barred at o r g q e b = let x = somebody o g e in ap (λ p. reply_to at p r) x.1.0 ∙ go r (x.0) (ap bar_at x.1.1 ∙ b)
  where
    go : (r : Request) (x : Session) → bar_at x.stage ≡ Some q → reply_to at (Some x) r ≡ q
    go (Begin v w) x h = rw h refl
    go (Get i) x h = rw h refl
    go (Insert i v) x h = rw h refl
    go (Update i v) x h = rw h refl
    go (Delete i) x h = rw h refl
    go Commit x h = rw h refl
    go Rollback x h = rw h refl

-- ---- a session without a transaction

free : (at : Tables) (a : Member) (s : ℕ) (r : Request) → at.state ≡ state a.life → without_transaction s r a ≡ after_reply s r (reply_to at None r) a
free at a s (Begin v w) e = go (wants_online v && not (is_up (state a.life))) refl
  where
    go : (b : Bool) → (wants_online v && not (is_up (state a.life))) ≡ b → begin_in s v w a ≡ after_reply s (Begin v w) (begin_free at v) a
    go true f = let g : (wants_online v && not (is_up at.state)) ≡ true = ap (λ z. wants_online v && not (is_up z)) e ∙ f in rw (begin_in, begin_free, f, g) (ap (λ z. answer s (NotOnline z) a) (sym e))
    go false f = let g : (wants_online v && not (is_up at.state)) ≡ false = ap (λ z. wants_online v && not (is_up z)) e ∙ f in rw (begin_in, begin_free, f, g) refl
free at a s (Get i) e = refl
free at a s (Insert i v) e = refl
free at a s (Update i v) e = refl
free at a s (Delete i) e = refl
free at a s Commit e = refl
free at a s Rollback e = refl

-- ---- a session whose transaction is active

-- the session's transaction, seen by its history
record Acts (at : Tables) (x : Session) (a : Member) (s : ℕ) : Type 0 where
  me : x.session ≡ s
  after : x.after ≡ is_after_call (last_call a.life s)
  state : x.state ≡ state_then (last_call a.life s)
  set : x.set ≡ begun_set a.life s
  changes : x.changes ≡ changes a.life s
  reads : (i : Item) → row_at at.store i (begun_set a.life s) ≡ row_of a.life (begun_set a.life s) i

same_mode : (at : Tables) (a : Member) → TablesOf at a → is_read_only at ≡ is_read_only_in a
same_mode at a t = rw (t.me, t.mode, t.primary) refl

row : (at : Tables) (x : Session) (a : Member) (s : ℕ) (i : Item) → Acts at x a s → changed_row i (row_at at.store i x.set) x.changes ≡ row_then a.life s i
row at x a s i k =
    ap (λ (e : Gtids). changed_row i (row_at at.store i e) x.changes) k.set
    ∙ (ap (λ (cs : List Change). changed_row i (row_at at.store i (begun_set a.life s)) cs) k.changes ∙ ap (λ (r : Option (List ℕ)). changed_row i r (changes a.life s)) (k.reads i))

row_own_is : (at : Tables) (x : Session) (a : Member) (s : ℕ) (i : Item) → TablesOf at a → Acts at x a s → row_own at.store x.changes i ≡ row_now_in a.life s i
row_own_is at x a s i t k = ap (λ (cs : List Change). changed_row i (row_now at.store i) cs) k.changes ∙ ap (λ (r : Option (List ℕ)). changed_row i r (changes a.life s)) (t.rows_now i)

stated : (at : Tables) (x : Session) (a : Member) (s : ℕ) (r : Request) (c : Change) → TablesOf at a → Acts at x a s → statement_in_rules s c a ≡ after_reply s r (statement_in at c x) a
stated at x a s r c t k = go (is_up x.state) (is_read_only at) (holder_beside at.locks x.session c.item) (fits c.what (row_own at.store x.changes c.item)) refl refl refl refl
  where
    state_is : is_up (state_then (last_call a.life s)) ≡ is_up x.state
    state_is = ap is_up (sym k.state)

    mode_is : is_read_only_in a ≡ is_read_only at
    mode_is = sym (same_mode at a t)

    holder_is : holder a.life a.me.inc s c.item ≡ holder_beside at.locks x.session c.item
    holder_is = sym (ap (λ u. holder_beside at.locks u c.item) k.me ∙ same_holder at a s c.item t)

    row_is : fits c.what (row_now_in a.life s c.item) ≡ fits c.what (row_own at.store x.changes c.item)
    row_is = ap (fits c.what) (sym (row_own_is at x a s c.item t k))

    go : (u m : Bool) (h : Option Holder) (f : Bool) → is_up x.state ≡ u → is_read_only at ≡ m → holder_beside at.locks x.session c.item ≡ h → fits c.what (row_own at.store x.changes c.item) ≡ f
        → statement_in_rules s c a ≡ after_reply s r (statement_in at c x) a
    go false m h f e1 e2 e3 e4 = rw (statement_in_rules, statement_in, state_is, e1) (ap (λ z. answer s (NotOnline z) a) (sym k.state))
    go true true h f e1 e2 e3 e4 = rw (statement_in_rules, statement_in, state_is, e1, mode_is, e2) (ap (λ z. answer s (ReadOnly z) a) (sym t.primary))
    go true false (Some h) f e1 e2 e3 e4 = rw (statement_in_rules, statement_in, state_is, e1, mode_is, e2, holder_is, e3) refl
    go true false None true e1 e2 e3 e4 = rw (statement_in_rules, statement_in, state_is, e1, mode_is, e2, holder_is, e3) (rw (change_row, change_row_in, row_is, e4) refl)
    go true false None false e1 e2 e3 e4 = rw (statement_in_rules, statement_in, state_is, e1, mode_is, e2, holder_is, e3) (rw (change_row, change_row_in, row_is, e4) refl)

sized : (s : ℕ) (b : List ℕ) (a : Member) → commit_bytes_in s (txn_in s a) b a ≡ after_reply s Commit (commit_bytes b) a
sized s b a = go (nat_lt 16777216 (length b)) refl
  where
    go : (z : Bool) → nat_lt 16777216 (length b) ≡ z → commit_bytes_in s (txn_in s a) b a ≡ after_reply s Commit (commit_bytes b) a
    go true f = rw (commit_bytes_in, commit_bytes, f) refl
    go false f = rw (commit_bytes_in, commit_bytes, f) refl

txn_is : (at : Tables) (x : Session) (a : Member) (s : ℕ) → TablesOf at a → Acts at x a s → txn_in s a ≡ txn_of at x
txn_is at x a s t k =
    let made : Bool → Gtids → List Change → Txn = λ after set cs. record { after = after; snapshot = set; items = items_of cs; changes = cs } in
    ap (λ b. made b (executed a.life) (changes a.life s)) (sym k.after)
    ∙ (ap (λ e. made x.after e (changes a.life s)) (sym t.set) ∙ ap (λ cs. made x.after at.executed cs) (sym k.changes))

committed : (at : Tables) (x : Session) (a : Member) (s : ℕ) → TablesOf at a → Acts at x a s → commit_changes_in s (changes a.life s) a ≡ after_reply s Commit (commit_changes at x x.changes) a
committed at x a s t k = ap (λ cs. commit_changes_in s cs a) (sym k.changes) ∙ go x.changes (is_read_only at) refl
  where
    go : (cs : List Change) (m : Bool) → is_read_only at ≡ m → commit_changes_in s cs a ≡ after_reply s Commit (commit_changes at x cs) a
    go [] m e = refl
    go (c ∷ cs) true e = let f : is_read_only_in a ≡ true = sym (same_mode at a t) ∙ e in rw (commit_changes_in, commit_changes, e, f) (ap (λ z. last_answer s (ReadOnly z) a) (sym t.primary))
    go (c ∷ cs) false e =
        let f : is_read_only_in a ≡ false = sym (same_mode at a t) ∙ e in
        rw (commit_changes_in, commit_changes, e, f)
        (sized s (body_bytes (Writes (txn_in s a))) a ∙ ap (λ (u : Txn). after_reply s Commit (commit_bytes (body_bytes (Writes u))) a) (txn_is at x a s t k))

-- the reply of a session whose transaction is active
acting : (at : Tables) (x : Session) (a : Member) (s : ℕ) (r : Request) → x.stage ≡ Active → TablesOf at a → Acts at x a s → in_transaction s r a ≡ after_reply s r (reply_to at (Some x) r) a
acting at x a s (Begin v w) g t k = rw g refl
acting at x a s (Get i) g t k = rw g (ap (λ z. answer s (Got z) a) (sym (row at x a s i k)))
acting at x a s (Insert i v) g t k = rw g (stated at x a s (Insert i v) (record { item = i; what = Inserts v }) t k)
acting at x a s (Update i v) g t k = rw g (stated at x a s (Update i v) (record { item = i; what = Updates v }) t k)
acting at x a s (Delete i) g t k = rw g (stated at x a s (Delete i) (record { item = i; what = Deletes }) t k)
acting at x a s Commit g t k = rw g (committed at x a s t k)
acting at x a s Rollback g t k = rw g refl

acts : (xs : List Session) (at : Tables) (a : Member) (s : ℕ) (x : Session) → StandFor xs a.life → TablesOf at a → session_in xs s ≡ Some x → x.stage ≡ Active → is_active (phase a.life s) ≡ true → Acts at x a s
acts xs at a s x f t e g p = let k = f s in record {
  me = found_is xs s x e;
  after = rw e at k.after;
  state = rw e at k.state;
  set = (rw e at k.set) g;
  changes = (rw e at k.changes) (ap has_changes g);
  reads = λ i. t.rows_seen s i p;
}

-- the transaction of the rules is that of the session
pub txn_sent : (xs : List Session) (at : Tables) (a : Member) (s : ℕ) (x : Session) → StandFor xs a.life → TablesOf at a → session_in xs s ≡ Some x → x.stage ≡ Active → is_active (phase a.life s) ≡ true → txn_in s a ≡ txn_of at x
txn_sent xs at a s x f t e g p = txn_is at x a s t (acts xs at a s x f t e g p)

-- ---- every call

opened : (s : ℕ) (r : Request) (a : Member) → call s r a ≡ unless_killed s r (killed a.life s) a
unfolding call
opened s r a = refl

pub replied : (xs : List Session) (at : Tables) (a : Member) (s : ℕ) (r : Request) → StandFor xs a.life → LeftActive a.life → TablesOf at a → call s r a ≡ after_reply s r (reply_to at (session_in xs s) r) a
replied xs at a s r f l t = opened s r a ∙ go (killed a.life s) (was_left a.life s) (phase a.life s) refl refl refl
  where
    o : Option Session
    o = session_in xs s

    stops : (g : Stage) (q : Reply) → stage_in a.life s ≡ Some g → bar_at g ≡ Some q → after_reply s r q a ≡ after_reply s r (reply_to at o r) a
    stops g q e b = ap (λ z. after_reply s r z a) (sym (barred at o r g q ((f s).stage ∙ e) b))

    go : (k : Option Gtid) (w : Bool) (p : Phase) → killed a.life s ≡ k → was_left a.life s ≡ w → phase a.life s ≡ p → unless_killed s r (killed a.life s) a ≡ after_reply s r (reply_to at o r) a
    go (Some g) w p e1 e2 e3 = rw e1 (stops (WasKilled g) (ends (Killed g)) (rw e1 refl) refl)
    go None true p e1 e2 e3 = rw (e1, unless_killed, e2) (stops WasLeft (ends MemberLeft) (rw (e1, e2, l s e2) refl) refl)
    go None false IsFree e1 e2 e3 =
        let none : o ≡ None = nobody o ((f s).stage ∙ (rw (e1, e2, e3) refl)) in
        rw (e1, unless_killed, e2, e3) (free at a s r t.own_state ∙ ap (λ z. after_reply s r (reply_to at z r) a) (sym none))
    go None false IsHolding e1 e2 e3 = rw (e1, unless_killed, e2, e3) (stops Holding (stays Busy) (rw (e1, e2, e3) refl) refl)
    go None false (IsAsking i) e1 e2 e3 = rw (e1, unless_killed, e2, e3) (stops (Asking i) (stays Busy) (rw (e1, e2, e3) refl) refl)
    go None false IsActive e1 e2 e3 =
        let x = somebody o Active ((f s).stage ∙ (rw (e1, e2, e3) refl)) in
        rw (e1, unless_killed, e2, e3)
        (acting at x.0 a s r x.1.1 t (acts xs at a s x.0 f t x.1.0 x.1.1 (ap is_active e3)) ∙ ap (λ z. after_reply s r (reply_to at z r) a) (sym x.1.0))
