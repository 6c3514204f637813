-- What a call does is what the rules of the group leave.
use Rattle.std.proofs.Common.{◌≡◌, subst, ℕ, Bool, true, false, ◌&&◌, not, Option, Some, None, List, [], ◌∷◌, length, refl, sym, ap, ◌∙◌}
use Rattle.std.specs.Prelude.{◌+◌, ◌==◌, nat_le, nat_lt}
use Rattle.gr_ids.specs.declared.names.Gtid.{Gtid}
use Rattle.gr_ids.specs.declared.names.ValueId.{ValueId}
use Rattle.gr_ids.specs.declared.levels.Level.{Level}
use Rattle.gr_ids.specs.declared.levels.MemberState.{MemberState}
use Rattle.key_items.specs.declared.item.Item.{Item}
use Rattle.key_items.specs.declared.change.Change.{Change}
use Rattle.key_items.specs.declared.change.ChangeKind.TheVariants.{Insert as Inserts, Update as Updates, Delete as Deletes}
use Rattle.txn_forms.specs.declared.body.Txn.{Txn}
use Rattle.txn_forms.specs.declared.body.Body.TheVariants.{Txn as Writes, Part as PartOf, Sync}
use Rattle.txn_forms.specs.Bodies.{body_bytes}
use Rattle.txn_forms.specs.Parts.{most_bytes, whole_bytes}
use Rattle.slot_values.specs.declared.value.What.{What}
use Rattle.slot_values.specs.declared.value.What.TheVariants.{Body as Says}
use Rattle.txn_forms.specs.declared.body.Body.{Body}
use Rattle.txn_forms.specs.declared.body.Part.{Part}
use Rattle.group_rules.specs.declared.answers.Answer.{Answer}
use Rattle.group_rules.specs.declared.answers.Answer.TheVariants.{Busy, Changed as IsChanged, Got, Killed, MemberLeft, RolledBack, Sent}
use Rattle.group_rules.specs.declared.answers.Holder.{Holder}
use Rattle.group_rules.specs.declared.requests.Request.{Request}
use Rattle.group_rules.specs.declared.requests.Request.TheVariants.{Begin, Get, Insert, Update, Delete, Commit, Rollback}
use Rattle.group_rules.specs.Events.{Answered, AsksCommit, Called, Changed, Did, Ends as EndsIn, Life, Made}
use Rattle.group_rules.specs.Holds.{has_sync, is_after}
use Rattle.group_rules.specs.Life.{is_up, last_made, state}
use Rattle.group_rules.specs.Parts.{cut}
use Rattle.group_rules.specs.Rows.{changed_row, fits}
use Rattle.group_rules.specs.Member.{Member, for_each, next_id, own, push}
use Rattle.group_rules.specs.Calls.{call, own_part, send_sync, send_txn, txn_of as txn_in, wants_online}
use Rattle.group_rules.specs.Sessions.{Phase, Free as IsFree, Holding as IsHolding, Active as IsActive, Asking as IsAsking, is_active, phase}
use Rattle.group_rules.specs.Keys.{killed, or_holder, was_left}
use Rattle.row_locks.specs.Locking.{Locked, holder_beside, other_session, place_at, session_at}
use Rattle.row_store.specs.Chains.{row_at, row_own}
use Rattle.local_sessions.specs.declared.tables.Tables.{Tables}
use Rattle.local_sessions.specs.declared.commit_step.CommitStep.{CommitStep}
use Rattle.local_sessions.specs.declared.commit_step.CommitStep.TheVariants.{Said, Ready}
use Rattle.local_sessions.specs.Standing.{Session, Stage, Holding, Active, WasKilled, WasLeft, Asked, Asking, at_stage, changed_at, session_in, stage_of}
use Rattle.local_sessions.specs.Replies.{Asks, Deed, Does, Ends, Holds, Nothing, Reply, Writing, bar_at, begin_free, change_row, commit_bytes, commit_changes, ends, is_read_only, sessions_after, statement_in, stays, txn_of}
use Rattle.local_sessions.specs.Following.{LeftActive, LocksOf, StandFor, TablesOf, is_free, is_left, stage_in, touches}
use Rattle.local_sessions.specs.Acting.{done_by, reply_to, sent_as}
use Rattle.local_sessions.proofs.Active.{found_is}
use Rattle.local_sessions.proofs.Passing.{passed, called, changed, asked, ended}
use Rattle.local_sessions.proofs.KeyHolders.{as_locks, by_holder, passed as locks_passed, called as locks_called, changed as locks_changed, asked as locks_asked, ended as locks_ended}
use Rattle.local_sessions.proofs.StillActive.{passed as left_passed, called as left_called, asked as left_asked, ended as left_ended}
use Rattle.local_sessions.proofs.Replying.{barred, replied}

-- ---- when a reply does what

-- no other one holds the key
abbrev Unlocked : Tables → Change → Option Session → Type 0
Unlocked at c None = Unit
Unlocked at c (Some x) = holder_beside at.locks x.session c.item ≡ None

-- the begin that is held
abbrev IsBegin : Tables → Request → Bool → MemberState → Type 0
IsBegin at (Begin v w) f t = (f ≡ is_after v) × (t ≡ at.state)
IsBegin at (Get i) f t = ⊥
IsBegin at (Insert i b) f t = ⊥
IsBegin at (Update i b) f t = ⊥
IsBegin at (Delete i) f t = ⊥
IsBegin at Commit f t = ⊥
IsBegin at Rollback f t = ⊥

-- a begin is held where there is no transaction; an active one alone writes, where the key is free, and asks its commit
abbrev Fits : Tables → Option Session → Request → CommitStep → Deed → Type 0
Fits at o r (Said x) Nothing = Unit
Fits at o r (Said x) Ends = Unit
Fits at o r (Said x) (Holds f t) = (o ≡ None) × IsBegin at r f t
Fits at o r (Said x) (Writing c) = (stage_of o ≡ Some Active) × Unlocked at c o
Fits at o r (Said x) Asks = ⊥
Fits at o r (Ready b) Nothing = ⊥
Fits at o r (Ready b) Ends = ⊥
Fits at o r (Ready b) (Holds f t) = ⊥
Fits at o r (Ready b) (Writing c) = ⊥
Fits at o r (Ready b) Asks = stage_of o ≡ Some Active

abbrev FitsReply : Tables → Option Session → Request → Reply → Type 0
FitsReply at o r q = Fits at o r q.answer q.deed

of_begin : (at : Tables) (v : Level) (w : ℕ) → FitsReply at None (Begin v w) (begin_free at v)
of_begin at v w = go (wants_online v && not (is_up at.state)) refl
  where
    go : (b : Bool) → (wants_online v && not (is_up at.state)) ≡ b → FitsReply at None (Begin v w) (begin_free at v)
    go true e = rw (begin_free, e) tt
    go false e = rw (begin_free, e) (refl, (refl, refl))

of_statement : (at : Tables) (x : Session) (r : Request) (c : Change) → x.stage ≡ Active → FitsReply at (Some x) r (statement_in at c x)
of_statement at x r c g = go (is_up x.state) (is_read_only at) (holder_beside at.locks x.session c.item) (fits c.what (row_own at.store x.changes c.item)) refl refl refl refl
  where
    go : (u m : Bool) (h : Option Holder) (f : Bool) → is_up x.state ≡ u → is_read_only at ≡ m → holder_beside at.locks x.session c.item ≡ h → fits c.what (row_own at.store x.changes c.item) ≡ f
        → FitsReply at (Some x) r (statement_in at c x)
    go false m h f e1 e2 e3 e4 = rw (statement_in, e1) tt
    go true true h f e1 e2 e3 e4 = rw (statement_in, e1, e2) tt
    go true false (Some h) f e1 e2 e3 e4 = rw (statement_in, e1, e2, e3) tt
    go true false None true e1 e2 e3 e4 =
        let q : statement_in at c x ≡ record { answer = Said IsChanged; deed = Writing c } = rw (statement_in, e1, e2, e3) (rw (change_row, e4) refl) in
        subst (FitsReply at (Some x) r) (sym q) (ap (λ z. Some z) g, e3)
    go true false None false e1 e2 e3 e4 = rw (statement_in, e1, e2, e3) (rw (change_row, e4) tt)

of_bytes : (at : Tables) (x : Session) (b : List ℕ) → x.stage ≡ Active → FitsReply at (Some x) Commit (commit_bytes b)
of_bytes at x b g = go (nat_lt most_bytes (length b)) refl
  where
    go : (z : Bool) → nat_lt most_bytes (length b) ≡ z → FitsReply at (Some x) Commit (commit_bytes b)
    go true e = rw (commit_bytes, e) tt
    go false e = rw (commit_bytes, e) (ap (λ z. Some z) g)

of_commit : (at : Tables) (x : Session) (cs : List Change) → x.stage ≡ Active → FitsReply at (Some x) Commit (commit_changes at x cs)
of_commit at x [] g = tt
of_commit at x (c ∷ cs) g = go (is_read_only at) refl
  where
    go : (m : Bool) → is_read_only at ≡ m → FitsReply at (Some x) Commit (commit_changes at x (c ∷ cs))
    go true e = rw (commit_changes, e) tt
    go false e = rw (commit_changes, e) (of_bytes at x (body_bytes (Writes (txn_of at x))) g)

of_active : (at : Tables) (x : Session) (r : Request) → x.stage ≡ Active → FitsReply at (Some x) r (reply_to at (Some x) r)
of_active at x (Begin v w) g = let q : reply_to at (Some x) (Begin v w) ≡ stays Busy = rw g refl in subst (FitsReply at (Some x) (Begin v w)) (sym q) tt
of_active at x (Get i) g = let q : reply_to at (Some x) (Get i) ≡ stays (Got (changed_row i (row_at at.store i x.set) x.changes)) = rw g refl in subst (FitsReply at (Some x) (Get i)) (sym q) tt
of_active at x (Insert i b) g = let c : Change = record { item = i; what = Inserts b } in let q : reply_to at (Some x) (Insert i b) ≡ statement_in at c x = rw g refl in subst (FitsReply at (Some x) (Insert i b)) (sym q) (of_statement at x (Insert i b) c g)
of_active at x (Update i b) g = let c : Change = record { item = i; what = Updates b } in let q : reply_to at (Some x) (Update i b) ≡ statement_in at c x = rw g refl in subst (FitsReply at (Some x) (Update i b)) (sym q) (of_statement at x (Update i b) c g)
of_active at x (Delete i) g = let c : Change = record { item = i; what = Deletes } in let q : reply_to at (Some x) (Delete i) ≡ statement_in at c x = rw g refl in subst (FitsReply at (Some x) (Delete i)) (sym q) (of_statement at x (Delete i) c g)
of_active at x Commit g = let q : reply_to at (Some x) Commit ≡ commit_changes at x x.changes = rw g refl in subst (FitsReply at (Some x) Commit) (sym q) (of_commit at x x.changes g)
of_active at x Rollback g = let q : reply_to at (Some x) Rollback ≡ ends RolledBack = rw g refl in subst (FitsReply at (Some x) Rollback) (sym q) tt

fits_always : (at : Tables) (o : Option Session) (r : Request) → FitsReply at o r (reply_to at o r)
fits_always at None (Begin v w) = of_begin at v w
fits_always at None (Get i) = tt
fits_always at None (Insert i b) = tt
fits_always at None (Update i b) = tt
fits_always at None (Delete i) = tt
fits_always at None Commit = tt
fits_always at None Rollback = tt
fits_always at (Some x) r = go x.stage refl
  where
    stops : (g : Stage) (q : Reply) → x.stage ≡ g → bar_at g ≡ Some q → FitsReply at (Some x) r q → FitsReply at (Some x) r (reply_to at (Some x) r)
    stops g q e b f = subst (FitsReply at (Some x) r) (sym (barred at (Some x) r g q (ap (λ z. Some z) e) b)) f

    go : (g : Stage) → x.stage ≡ g → FitsReply at (Some x) r (reply_to at (Some x) r)
    go Holding e = stops Holding (stays Busy) e refl tt
    go Active e = of_active at x r e
    go (WasKilled g) e = stops (WasKilled g) (ends (Killed g)) e refl tt
    go WasLeft e = stops WasLeft (ends MemberLeft) e refl tt
    go Asked e = stops Asked (stays Busy) e refl tt
    go (Asking i) e = stops (Asking i) (stays Busy) e refl tt

-- ---- what a stage says of the history

pub record Acts (l : Life) (s : ℕ) : Type 0 where
  pub active : is_active (phase l s) ≡ true
  alive : killed l s ≡ None
  stays_on : was_left l s ≡ false

pub acts : (l : Life) (s : ℕ) → LeftActive l → stage_in l s ≡ Some Active → Acts l s
acts l s a e = go (killed l s) (was_left l s) (phase l s) refl refl refl
  where
    go : (k : Option Gtid) (w : Bool) (p : Phase) → killed l s ≡ k → was_left l s ≡ w → phase l s ≡ p → Acts l s
    go (Some g) w p f1 f2 f3 = absurd (let z : Some (WasKilled g) ≡ Some Active = rw (stage_in, f1) at e in cc)
    go None true p f1 f2 f3 = absurd (let z : Some WasLeft ≡ Some Active = rw (stage_in, f1, f2, a s f2) at e in cc)
    go None false IsFree f1 f2 f3 = absurd (let z : None ≡ Some Active = rw (stage_in, f1, f2, f3) at e in cc)
    go None false IsHolding f1 f2 f3 = absurd (let z : Some Holding ≡ Some Active = rw (stage_in, f1, f2, f3) at e in cc)
    go None false IsActive f1 f2 f3 = record { active = ap is_active f3; alive = f1; stays_on = f2 }
    go None false (IsAsking i) f1 f2 f3 = absurd (let z : Some (Asking i) ≡ Some Active = rw (stage_in, f1, f2, f3) at e in cc)

frees : (l : Life) (s : ℕ) → stage_in l s ≡ None → is_free (phase l s) ≡ true
frees l s e = go (killed l s) (is_left l s) (phase l s) refl refl refl
  where
    go : (k : Option Gtid) (w : Bool) (p : Phase) → killed l s ≡ k → is_left l s ≡ w → phase l s ≡ p → is_free (phase l s) ≡ true
    go (Some g) w p f1 f2 f3 = absurd (let z : Some (WasKilled g) ≡ None = rw (stage_in, f1) at e in cc)
    go None true p f1 f2 f3 = absurd (let z : Some WasLeft ≡ None = rw (stage_in, f1, f2) at e in cc)
    go None false IsFree f1 f2 f3 = rw f3 refl
    go None false IsHolding f1 f2 f3 = absurd (let z : Some Holding ≡ None = rw (stage_in, f1, f2, f3) at e in cc)
    go None false IsActive f1 f2 f3 = absurd (let z : Some Active ≡ None = rw (stage_in, f1, f2, f3) at e in cc)
    go None false (IsAsking i) f1 f2 f3 = absurd (let z : Some (Asking i) ≡ None = rw (stage_in, f1, f2, f3) at e in cc)

-- ---- what stands

record Stands (xs : List Session) (k : Locked) (l : Life) : Type 0 where
  sessions : StandFor xs l
  locks : LocksOf k l
  left : LeftActive l

passes : (xs : List Session) (k : Locked) (l : Life) (d : Did) → touches d ≡ false → Stands xs k l → Stands xs k (d ∷ l)
passes xs k l d h q = record { sessions = passed xs l d h q.sessions; locks = locks_passed k l d h q.locks; left = left_passed l d h q.left }

owned : (xs : List Session) (k : Locked) (w : What) (h : Option Body) (m : Member) → Stands xs k m.life → Stands xs k (own w h m).life
owned xs k w h m q = passes xs k m.life (Made (record { id = next_id m; what = w }) h) refl q

parts : (xs : List Session) (k : Locked) (t : Txn) (ps : List Part) (m : Member) → Stands xs k m.life → Stands xs k (for_each (own_part t) ps m).life
parts xs k t [] m q = q
parts xs k t (p ∷ ps) m q = parts xs k t ps (own_part t p m) (owned xs k (Says (body_bytes (PartOf p))) (Some (elim (p.index == p.count) [ true ↦ Writes t | false ↦ PartOf p ])) m q)

synced : (xs : List Session) (k : Locked) (v : Level) (m : Member) → Stands xs k m.life → Stands xs k (send_sync v m).life
synced xs k v m q = go (has_sync v) refl
  where
    go : (b : Bool) → has_sync v ≡ b → Stands xs k (send_sync v m).life
    go true e = rw (send_sync, e) (owned xs k (Says (body_bytes Sync)) (Some Sync) m q)
    go false e = rw (send_sync, e) q

-- ---- each deed

module _ (xs new : List Session) (at now : Tables) (a : Member) (s : ℕ) (r : Request) (f : StandFor xs a.life) (l : LeftActive a.life) (t : TablesOf at a) where
  -- the same keys
  same : ((j : Item) → session_at now.locks.keys j ≡ session_at at.locks.keys j) → LocksOf now.locks a.life
  same e = as_locks (session_at at.locks.keys) now.locks a.life (by_holder at.locks a.life t.locks) e

  alone : (c : Change) → stage_of (session_in xs s) ≡ Some Active → Unlocked at c (session_in xs s) → other_session s (session_at at.locks.keys c.item) ≡ None
  alone c e u = go (session_in xs s) refl
    where
      other : (p q : Option Holder) → or_holder p q ≡ None → q ≡ None
      other None q h = h
      other (Some x) q h = absurd cc

      go : (o : Option Session) → session_in xs s ≡ o → other_session s (session_at at.locks.keys c.item) ≡ None
      go None g = absurd (let z : None ≡ Some Active = rw g at e in cc)
      go (Some x) g =
          let v : holder_beside at.locks x.session c.item ≡ None = rw g at u in
          other (place_at at.locks.places c.item) (other_session s (session_at at.locks.keys c.item)) (ap (λ n. holder_beside at.locks n c.item) (sym (found_is xs s x g)) ∙ v)

  did : (x : Answer) (d : Deed) → Fits at (session_in xs s) r (Said x) d → Does d s xs new at now → Stands new now.locks (done_by s r (Said x) d a).life
  did x Nothing g e = subst (λ ys. Stands ys now.locks (Answered s x ∷ a.life)) (sym e.sessions) (passes xs now.locks a.life (Answered s x) refl (record { sessions = f; locks = same e.keys; left = l }))
  did x Ends g e =
      let b : Life = Answered s x ∷ a.life in
      record {
        sessions = subst (λ ys. StandFor ys (EndsIn s ∷ b)) (sym e.sessions) (ended xs b s (passed xs a.life (Answered s x) refl f));
        locks = locks_ended at.locks now.locks b s (locks_passed at.locks a.life (Answered s x) refl t.locks) e.keys;
        left = left_ended b s (left_passed a.life (Answered s x) refl l);
      }
  did x (Holds after was) g e = held r g.0 g.1
    where
      held : (q : Request) → session_in xs s ≡ None → IsBegin at q after was → Stands new now.locks (done_by s q (Said x) (Holds after was) a).life
      held (Begin v w) n b =
          let free : is_free (phase a.life s) ≡ true = frees a.life s (sym (f s).stage ∙ ap stage_of n) in
          let put : new ≡ sessions_after (Holds (is_after v) (state a.life)) s xs = e.sessions ∙ (ap (λ z. sessions_after (Holds z was) s xs) b.0 ∙ ap (λ z. sessions_after (Holds (is_after v) z) s xs) (b.1 ∙ t.own_state)) in
          synced new now.locks v (push (Called s v w) a)
          (record {
            sessions = subst (λ ys. StandFor ys (Called s v w ∷ a.life)) (sym put) (called xs a.life s v w f n);
            locks = locks_called now.locks a.life s v w (same e.keys) free;
            left = left_called a.life s v w l;
          })
      held (Get i) n b = absurd b
      held (Insert i y) n b = absurd b
      held (Update i y) n b = absurd b
      held (Delete i) n b = absurd b
      held Commit n b = absurd b
      held Rollback n b = absurd b
  did x (Writing c) g e =
      let k = acts a.life s l (sym (f s).stage ∙ g.0) in
      record {
        sessions = subst (λ ys. StandFor ys (Changed s c ∷ a.life)) (sym e.sessions) (changed xs a.life s c f g.0);
        locks = locks_changed at.locks now.locks a.life s c t.locks k.active k.alive (alone c g.0 g.1) e.keys;
        left = l;
      }
  did x Asks g e = absurd g

  asks_commit : (i : ValueId) → stage_of (session_in xs s) ≡ Some Active → Does Asks s xs new at now → Stands (changed_at s (at_stage (Asking i)) new) now.locks (AsksCommit s i ∷ a.life)
  asks_commit i g e =
      let k = acts a.life s l (sym (f s).stage ∙ g) in
      record {
        sessions = subst (λ ys. StandFor (changed_at s (at_stage (Asking i)) ys) (AsksCommit s i ∷ a.life)) (sym e.sessions) (asked xs a.life s i f g);
        locks = locks_asked now.locks a.life s i (same e.keys) k.active k.alive;
        left = left_asked a.life s i l k.stays_on;
      }

  did_send : (b : List ℕ) (d : Deed) → Fits at (session_in xs s) r (Ready b) d → Does d s xs new at now → Stands (changed_at s (at_stage (Asking (sent_as b a))) new) now.locks (done_by s r (Ready b) d a).life
  did_send b Nothing g e = absurd g
  did_send b Ends g e = absurd g
  did_send b (Holds after was) g e = absurd g
  did_send b (Writing c) g e = absurd g
  did_send b Asks g e = go (nat_le (length b) whole_bytes) refl
    where
      go : (z : Bool) → nat_le (length b) whole_bytes ≡ z → Stands (changed_at s (at_stage (Asking (sent_as b a))) new) now.locks (send_txn s (txn_in s a) b a).life
      go true h =
          let i : ValueId = record { origin = a.me.inc; number = last_made a.life + 1 } in
          let m : Member = push (AsksCommit s i) a in
          let ys : List Session = changed_at s (at_stage (Asking i)) new in
          rw (send_txn, sent_as, h) (passes ys now.locks (own (Says b) (Some (Writes (txn_in s a))) m).life (Answered s (Sent i)) refl (owned ys now.locks (Says b) (Some (Writes (txn_in s a))) m (asks_commit i g e)))
      go false h =
          let i : ValueId = record { origin = a.me.inc; number = last_made a.life + length (cut b) } in
          let m : Member = push (AsksCommit s i) a in
          let ys : List Session = changed_at s (at_stage (Asking i)) new in
          rw (send_txn, sent_as, h) (passes ys now.locks (for_each (own_part (txn_in s a)) (cut b) m).life (Answered s (Sent i)) refl (parts ys now.locks (txn_in s a) (cut b) m (asks_commit i g e)))

  all_said : (x : Answer) → (reply_to at (session_in xs s) r).answer ≡ Said x → Does (reply_to at (session_in xs s) r).deed s xs new at now → Stands new now.locks (call s r a).life
  all_said x n e =
      subst (λ (m : Member). Stands new now.locks m.life) (sym (replied xs at a s r f l t))
      (subst (λ w. Stands new now.locks (done_by s r w (reply_to at (session_in xs s) r).deed a).life) (sym n)
      (did x (reply_to at (session_in xs s) r).deed (subst (λ w. Fits at (session_in xs s) r w (reply_to at (session_in xs s) r).deed) n (fits_always at (session_in xs s) r)) e))

  all_sent : (b : List ℕ) → (reply_to at (session_in xs s) r).answer ≡ Ready b → Does (reply_to at (session_in xs s) r).deed s xs new at now → Stands (changed_at s (at_stage (Asking (sent_as b a))) new) now.locks (call s r a).life
  all_sent b n e =
      subst (λ (m : Member). Stands (changed_at s (at_stage (Asking (sent_as b a))) new) now.locks m.life) (sym (replied xs at a s r f l t))
      (subst (λ w. Stands (changed_at s (at_stage (Asking (sent_as b a))) new) now.locks (done_by s r w (reply_to at (session_in xs s) r).deed a).life) (sym n)
      (did_send b (reply_to at (session_in xs s) r).deed (subst (λ w. Fits at (session_in xs s) r w (reply_to at (session_in xs s) r).deed) n (fits_always at (session_in xs s) r)) e))

  pub said : (x : Answer) → (reply_to at (session_in xs s) r).answer ≡ Said x → Does (reply_to at (session_in xs s) r).deed s xs new at now
      → StandFor new (call s r a).life × LocksOf now.locks (call s r a).life × LeftActive (call s r a).life
  said x n e = let q = all_said x n e in (q.sessions, q.locks, q.left)

  pub sent : (b : List ℕ) → (reply_to at (session_in xs s) r).answer ≡ Ready b → Does (reply_to at (session_in xs s) r).deed s xs new at now
      → StandFor (changed_at s (at_stage (Asking (sent_as b a))) new) (call s r a).life × LocksOf now.locks (call s r a).life × LeftActive (call s r a).life
  sent b n e = let q = all_sent b n e in (q.sessions, q.locks, q.left)
