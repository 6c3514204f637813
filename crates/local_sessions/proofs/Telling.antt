-- Which deed an answer means.
use Rattle.std.proofs.Common.{◌≡◌, ◌≤◌, ℕ, Bool, true, false, ◌&&◌, not, Option, Some, None, List, ◌∷◌, [], length, refl, sym, subst, ap, ◌∙◌, arith, length-append}
use Rattle.std.specs.Prelude.{nat_lt}
use Rattle.std.proofs.lemmas.Bool.{ltb-false}
use Rattle.byte_forms.specs.Numbers.{number}
use Rattle.byte_forms.proofs.NumberLemmas.{length-number}
use Rattle.gr_ids.specs.declared.levels.Level.{Level}
use Rattle.gr_ids.specs.declared.names.Gtid.{Gtid}
use Rattle.key_items.specs.declared.item.Item.{Item}
use Rattle.key_items.specs.declared.change.Change.{Change}
use Rattle.key_items.specs.declared.change.ChangeKind.{ChangeKind}
use Rattle.key_items.specs.declared.change.ChangeKind.TheVariants.{Insert as Inserts, Update as Updates, Delete as Deletes}
use Rattle.row_locks.specs.Locking.{holder_beside}
use Rattle.row_store.specs.Chains.{row_own}
use Rattle.group_rules.specs.declared.answers.Answer.{Answer}
use Rattle.group_rules.specs.declared.answers.Answer.TheVariants.{Busy, Changed as IsChanged, CommittedEmpty, Got, Held, Killed, MemberLeft, NoTransaction, NotOnline, ReadOnly, RolledBack, RowLocked, TooLarge}
use Rattle.group_rules.specs.declared.answers.Holder.{Holder}
use Rattle.group_rules.specs.declared.requests.Request.{Request}
use Rattle.group_rules.specs.declared.requests.Request.TheVariants.{Begin, Get, Insert, Update, Delete, Commit, Rollback}
use Rattle.txn_forms.specs.declared.body.Body.TheVariants.{Txn as Writes}
use Rattle.txn_forms.specs.declared.body.Txn.{Txn}
use Rattle.txn_forms.specs.Bodies.{IsHeldTxn, IsTxn, body_bytes, txn_bytes}
use Rattle.group_rules.specs.Calls.{misfit, txn_of as txn_in, wants_online}
use Rattle.group_rules.specs.Events.{Life}
use Rattle.group_rules.specs.Keys.{killed, was_left}
use Rattle.group_rules.specs.Sessions.{Phase, Free as IsFree, Holding as IsHolding, Active as IsActive, Asking as IsAsking, is_active, is_holding, phase}
use Rattle.group_rules.specs.Holds.{is_after}
use Rattle.group_rules.specs.Life.{is_up}
use Rattle.group_rules.specs.Member.{Member}
use Rattle.group_rules.specs.Rows.{fits}
use Rattle.local_sessions.specs.declared.commit_step.CommitStep.TheVariants.{Ready, Said}
use Rattle.local_sessions.specs.declared.tables.Tables.{Tables}
use Rattle.local_sessions.specs.Acting.{reply_to}
use Rattle.local_sessions.specs.Committing.{IsSpeltIn}
use Rattle.local_sessions.specs.Replies.{Holds, Reply, bar_at, begin, begin_free, change_row, commit, commit_bytes, commit_changes, ends, get, is_read_only, reply_or, rollback, statement, statement_in, stays, txn_of, unless_barred, unless_locked}
use Rattle.local_sessions.specs.Standing.{Active, Asked, Asking, Holding, Session, Stage, WasKilled, WasLeft, session_in, stage_of}
use Rattle.local_sessions.specs.Following.{LeftActive, StandFor, TablesOf, is_left, stage_in}
use Rattle.local_sessions.proofs.Calling.{acts}
use Rattle.local_sessions.proofs.Replying.{txn_sent}
use Rattle.local_sessions.specs.Telling.{Fits, ends_by, ends_commit, is_begin, is_last}

-- the answer fits what is done besides, by this test for last answers
abbrev FitsIn : (Answer → Bool) → Reply → Type 0
FitsIn t q = (w : Answer) → q.answer ≡ Said w → Fits (t w) w q.deed

stays_fit : (t : Answer → Bool) (x : Answer) → t x ≡ false → FitsIn t (stays x)
stays_fit t x h = λ w e. let k : x ≡ w = cc in sym (ap t k) ∙ h

ends_fit : (t : Answer → Bool) (x : Answer) → t x ≡ true → FitsIn t (ends x)
ends_fit t x h = λ w e. let k : x ≡ w = cc in sym (ap t k) ∙ h

-- a test that knows the answers of a session whose transaction isn't active
record Bars (t : Answer → Bool) : Type 0 where
  busy : t Busy ≡ false
  none : t NoTransaction ≡ false
  left : t MemberLeft ≡ true
  killed : (g : Gtid) → t (Killed g) ≡ true

unless_fits : (t : Answer → Bool) → Bars t → (f : Session → Reply) → ((x : Session) → FitsIn t (f x)) → (o : Option Session) → FitsIn t (unless_barred f o)
unless_fits t b f h None = stays_fit t NoTransaction b.none
unless_fits t b f h (Some x) = go x.stage
  where
    go : (g : Stage) → FitsIn t (reply_or (bar_at g) (f x))
    go Holding = stays_fit t Busy b.busy
    go Active = h x
    go (WasKilled g) = ends_fit t (Killed g) (b.killed g)
    go WasLeft = ends_fit t MemberLeft b.left
    go Asked = stays_fit t Busy b.busy
    go (Asking i) = stays_fit t Busy b.busy

knows : Bars is_last
knows = record { busy = refl; none = refl; left = refl; killed = λ g. refl }

-- ---- gets, changes and rollbacks

get_fits : (at : Tables) (i : Item) (o : Option Session) → FitsIn is_last (get at i o)
get_fits at i o = unless_fits is_last knows _ (λ x. stays_fit is_last (Got _) refl) o

misfits : (k : ChangeKind) → is_last (misfit k) ≡ false
misfits (Inserts r) = refl
misfits (Updates r) = refl
misfits Deletes = refl

row_fits : (at : Tables) (c : Change) (x : Session) → FitsIn is_last (change_row at c x)
row_fits at c x = go (fits c.what (row_own at.store x.changes c.item)) refl
  where
    go : (b : Bool) → fits c.what (row_own at.store x.changes c.item) ≡ b → FitsIn is_last (change_row at c x)
    go true e = rw (change_row, e) (λ w h. let k : IsChanged ≡ w = cc in (sym (ap is_last k), sym k))
    go false e = rw (change_row, e) (stays_fit is_last (misfit c.what) (misfits c.what))

locked_fits : (at : Tables) (c : Change) (x : Session) (o : Option Holder) → FitsIn is_last (unless_locked at c x o)
locked_fits at c x None = row_fits at c x
locked_fits at c x (Some h) = stays_fit is_last (RowLocked h) refl

change_fits : (at : Tables) (c : Change) (x : Session) → FitsIn is_last (statement_in at c x)
change_fits at c x = go (is_up x.state) (is_read_only at) refl refl
  where
    go : (u m : Bool) → is_up x.state ≡ u → is_read_only at ≡ m → FitsIn is_last (statement_in at c x)
    go false m e f = rw (statement_in, e) (stays_fit is_last (NotOnline x.state) refl)
    go true true e f = rw (statement_in, e, f) (stays_fit is_last (ReadOnly at.primary) refl)
    go true false e f = rw (statement_in, e, f) (locked_fits at c x (holder_beside at.locks x.session c.item))

statement_fits : (at : Tables) (c : Change) (o : Option Session) → FitsIn is_last (statement at c o)
statement_fits at c o = unless_fits is_last knows (statement_in at c) (change_fits at c) o

rollback_fits : (o : Option Session) → FitsIn is_last (rollback o)
rollback_fits o = unless_fits is_last knows _ (λ x. ends_fit is_last RolledBack refl) o

-- ---- commits

sized_fits : (b : List ℕ) → FitsIn ends_commit (commit_bytes b)
sized_fits b = go (nat_lt 16777216 (length b)) refl
  where
    go : (z : Bool) → nat_lt 16777216 (length b) ≡ z → FitsIn ends_commit (commit_bytes b)
    go true e = rw (commit_bytes, e) (ends_fit ends_commit (TooLarge _) refl)
    go false e = rw (commit_bytes, e) (λ w h. absurd cc)

changes_fit : (at : Tables) (x : Session) (cs : List Change) → FitsIn ends_commit (commit_changes at x cs)
changes_fit at x [] = ends_fit ends_commit CommittedEmpty refl
changes_fit at x (c ∷ cs) = go (is_read_only at) refl
  where
    go : (m : Bool) → is_read_only at ≡ m → FitsIn ends_commit (commit_changes at x (c ∷ cs))
    go true e = rw (commit_changes, e) (ends_fit ends_commit (ReadOnly at.primary) refl)
    go false e = rw (commit_changes, e) (sized_fits (body_bytes (Writes (txn_of at x))))

commit_fits : (at : Tables) (o : Option Session) → FitsIn ends_commit (commit at o)
commit_fits at o = unless_fits ends_commit (record { busy = refl; none = refl; left = refl; killed = λ g. refl }) (λ x. commit_changes at x x.changes) (λ x. changes_fit at x x.changes) o

-- ---- begins

free_fits : (at : Tables) (v : Level) (w : Answer) → (begin_free at v).answer ≡ Said w → (w ≡ Held → ⊥) → Fits (is_last w) w (begin_free at v).deed
free_fits at v w = go (wants_online v && not (is_up at.state)) refl
  where
    go : (b : Bool) → (wants_online v && not (is_up at.state)) ≡ b → (begin_free at v).answer ≡ Said w → (w ≡ Held → ⊥) → Fits (is_last w) w (begin_free at v).deed
    go true e = rw (begin_free, e) (λ h n. stays_fit is_last (NotOnline at.state) refl w h)
    go false e = rw (begin_free, e) (λ h n. absurd (let k : Held ≡ w = cc in n (sym k)))

begin_fits : (at : Tables) (v : Level) (o : Option Session) (w : Answer) → (begin at v o).answer ≡ Said w → (w ≡ Held → ⊥) → Fits (is_last w) w (begin at v o).deed
begin_fits at v None w e n = free_fits at v w e n
begin_fits at v (Some x) w e n = go x.stage w e
  where
    go : (g : Stage) → FitsIn is_last (reply_or (bar_at g) (stays Busy))
    go Holding = stays_fit is_last Busy refl
    go Active = stays_fit is_last Busy refl
    go (WasKilled g) = ends_fit is_last (Killed g) refl
    go WasLeft = ends_fit is_last MemberLeft refl
    go Asked = stays_fit is_last Busy refl
    go (Asking i) = stays_fit is_last Busy refl

free_held : (at : Tables) (v : Level) → (begin_free at v).answer ≡ Said Held → (begin_free at v).deed ≡ Holds (is_after v) at.state
free_held at v = go (wants_online v && not (is_up at.state)) refl
  where
    go : (b : Bool) → (wants_online v && not (is_up at.state)) ≡ b → (begin_free at v).answer ≡ Said Held → (begin_free at v).deed ≡ Holds (is_after v) at.state
    go true e = rw (begin_free, e) (λ h. absurd cc)
    go false e = rw (begin_free, e) (λ h. refl)

begin_held : (at : Tables) (v : Level) (o : Option Session) → (begin at v o).answer ≡ Said Held → (o ≡ None) × ((begin at v o).deed ≡ Holds (is_after v) at.state)
begin_held at v None e = (refl, free_held at v e)
begin_held at v (Some x) e = absurd (go x.stage e)
  where
    go : (g : Stage) → (reply_or (bar_at g) (stays Busy)).answer ≡ Said Held → ⊥
    go Holding h = cc
    go Active h = cc
    go (WasKilled g) h = cc
    go WasLeft h = cc
    go Asked h = cc
    go (Asking i) h = cc

-- ---- each call

pub tells : (at : Tables) (o : Option Session) (r : Request) (w : Answer) → is_begin r ≡ false → (reply_to at o r).answer ≡ Said w → Fits (ends_by r w) w (reply_to at o r).deed
tells at o (Begin v n) w b e = absurd cc
tells at o (Get i) w b e = get_fits at i o w e
tells at o (Insert i r) w b e = statement_fits at (record { item = i; what = Inserts r }) o w e
tells at o (Update i r) w b e = statement_fits at (record { item = i; what = Updates r }) o w e
tells at o (Delete i) w b e = statement_fits at (record { item = i; what = Deletes }) o w e
tells at o Commit w b e = commit_fits at o w e
tells at o Rollback w b e = rollback_fits o w e

pub tells_begun : (at : Tables) (o : Option Session) (v : Level) (n : ℕ) (w : Answer) → (w ≡ Held → ⊥) → (reply_to at o (Begin v n)).answer ≡ Said w
    → Fits (is_last w) w (reply_to at o (Begin v n)).deed
tells_begun at o v n w h e = begin_fits at v o w e h

-- a begin that is held is of a session that has no transaction
pub tells_held : (xs : List Session) (at : Tables) (l : Life) (s : ℕ) (v : Level) (n : ℕ) → StandFor xs l → (reply_to at (session_in xs s) (Begin v n)).answer ≡ Said Held
    → (is_holding (phase l s) ≡ false) × ((reply_to at (session_in xs s) (Begin v n)).deed ≡ Holds (is_after v) at.state)
tells_held xs at l s v n f e =
    let k = begin_held at v (session_in xs s) e in
    (idle (killed l s) (was_left l s) (phase l s) refl refl refl (sym (f s).stage ∙ ap stage_of k.0), k.1)
  where
    idle : (g : Option Gtid) (w : Bool) (p : Phase) → killed l s ≡ g → was_left l s ≡ w → phase l s ≡ p → stage_in l s ≡ None → is_holding (phase l s) ≡ false
    idle g w IsFree e1 e2 e3 h = ap is_holding e3
    idle g w IsActive e1 e2 e3 h = ap is_holding e3
    idle g w (IsAsking i) e1 e2 e3 h = ap is_holding e3
    idle (Some g) w IsHolding e1 e2 e3 h = absurd (let z : Some (WasKilled g) ≡ None = rw (stage_in, e1) at h in cc)
    idle None true IsHolding e1 e2 e3 h = absurd (let z : Some Holding ≡ None = rw (stage_in, e1, is_left, e2, e3) at h in cc)
    idle None false IsHolding e1 e2 e3 h = absurd (let z : Some Holding ≡ None = rw (stage_in, e1, is_left, e2, e3) at h in cc)

-- ---- a commit that is asked

sends_bytes : (t b : List ℕ) → (commit_bytes t).answer ≡ Ready b → (b ≡ t) × (length b ≤ 16777216)
sends_bytes t b = go (nat_lt 16777216 (length t)) refl
  where
    go : (z : Bool) → nat_lt 16777216 (length t) ≡ z → (commit_bytes t).answer ≡ Ready b → (b ≡ t) × (length b ≤ 16777216)
    go true e = rw (commit_bytes, e) (λ h. absurd cc)
    go false e = rw (commit_bytes, e) (λ h. let k : t ≡ b = cc in (sym k, subst (λ c. length c ≤ 16777216) k (ltb-false 16777216 (length t) e)))

sends_changes : (at : Tables) (x : Session) (cs : List Change) (b : List ℕ) → (commit_changes at x cs).answer ≡ Ready b → (b ≡ body_bytes (Writes (txn_of at x))) × (length b ≤ 16777216)
sends_changes at x [] b = λ e. absurd cc
sends_changes at x (c ∷ cs) b = go (is_read_only at) refl
  where
    go : (m : Bool) → is_read_only at ≡ m → (commit_changes at x (c ∷ cs)).answer ≡ Ready b → (b ≡ body_bytes (Writes (txn_of at x))) × (length b ≤ 16777216)
    go true e = rw (commit_changes, e) (λ h. absurd cc)
    go false e = rw (commit_changes, e) (λ h. sends_bytes (body_bytes (Writes (txn_of at x))) b h)

-- it is of a session whose transaction is active
pub record Sends (at : Tables) (x : Session) (b : List ℕ) : Type 0 where
  pub active : x.stage ≡ Active
  pub bytes : b ≡ body_bytes (Writes (txn_of at x))
  pub short : length b ≤ 16777216

pub sends : (at : Tables) (o : Option Session) (b : List ℕ) → (reply_to at o Commit).answer ≡ Ready b → (x : Session) × ((o ≡ Some x) × Sends at x b)
sends at None b e = absurd cc
sends at (Some x) b e = (x, (refl, go x.stage refl))
  where
    go : (g : Stage) → x.stage ≡ g → Sends at x b
    go Active h = let k = sends_changes at x x.changes b (rw h at e) in record { active = h; bytes = k.0; short = k.1 }
    go Holding h = absurd (let q = rw h at e in cc)
    go (WasKilled g) h = absurd (let q = rw h at e in cc)
    go WasLeft h = absurd (let q = rw h at e in cc)
    go Asked h = absurd (let q = rw h at e in cc)
    go (Asking i) h = absurd (let q = rw h at e in cc)

-- its length is that of a body
pub tells_size : (at : Tables) (o : Option Session) (b : List ℕ) → (reply_to at o Commit).answer ≡ Ready b → (1 ≤ length b) × (length b ≤ 16777216)
tells_size at o b e =
    let k = sends at o b e in
    let long : 1 ≤ length (body_bytes (Writes (txn_of at k.0))) = omega (arith, length-append (number 1 1) (txn_bytes (txn_of at k.0)), length-number 1 1) in
    (subst (λ c. 1 ≤ length c) (sym k.1.1.bytes) long, k.1.1.short)

-- it is the transaction of the rules, which can be spelt, and whose begin isn't held
pub tells_sent : (xs : List Session) (at : Tables) (a : Member) (s : ℕ) (b : List ℕ) → StandFor xs a.life → LeftActive a.life → TablesOf at a → (reply_to at (session_in xs s) Commit).answer ≡ Ready b
    → (b ≡ body_bytes (Writes (txn_in s a))) × ((is_holding (phase a.life s) ≡ false) × (IsSpeltIn at (session_in xs s) (Ready b) → IsTxn (txn_in s a) × IsHeldTxn (txn_in s a)))
tells_sent xs at a s b f l t e =
    let k = sends at (session_in xs s) b e in
    let on = acts a.life s l (sym (f s).stage ∙ (ap stage_of k.1.0 ∙ ap (λ g. Some g) k.1.1.active)) in
    let same : txn_in s a ≡ txn_of at k.0 = txn_sent xs at a s k.0 f t k.1.0 k.1.1.active on.active in (
      k.1.1.bytes ∙ ap (λ u. body_bytes (Writes u)) (sym same),
      (quiet (phase a.life s) refl on.active, λ h. subst (λ (u : Txn). IsTxn u × IsHeldTxn u) (sym same) (subst (λ (o : Option Session). IsSpeltIn at o (Ready b)) k.1.0 h)),
    )
  where
    quiet : (p : Phase) → phase a.life s ≡ p → is_active (phase a.life s) ≡ true → is_holding (phase a.life s) ≡ false
    quiet IsFree e h = ap is_holding e
    quiet IsActive e h = ap is_holding e
    quiet (IsAsking i) e h = ap is_holding e
    quiet IsHolding e h = absurd (let z : true ≡ false = sym h ∙ ap is_active e in cc)
