-- Each step of a member is made of acts of its node, of things left in its history as the rules ask, and of messages that aren't its node's.
use Rattle.std.proofs.Common.{eq-eqb, eqb, append_assoc, ◌≡◌, ◌⊎◌, inl, inr, ℕ, zero, suc, ◌+◌, ◌-◌, ◌/◌, ◌≤◌, ◌<◌, Bool, true, false, Option, Some, None, List, [], ◌∷◌, ◌++◌, refl, sym, ap, subst, ◌∙◌, arith}
use Rattle.std.specs.Prelude.{length, reverse, filter, not, ◌&&◌, ◌==◌, nat_le, take, drop, if◌then◌else◌, is_some}
use Rattle.std.proofs.lemmas.Bool.{false≢true, and_parts, cases_Bool, eqb-true, leb-true, leb-false, ltb-false, not-true}
use Rattle.std.proofs.lemmas.List.{reverse-append}
use Rattle.gr_ids.specs.Names.{id_eq, inc_eq, is_inc}
use Rattle.gr_ids.specs.declared.names.Inc.{Inc}
use Rattle.gr_ids.specs.declared.names.Gtid.{Gtid}
use Rattle.gr_ids.specs.declared.names.ValueId.{ValueId}
use Rattle.gr_ids.specs.declared.levels.Level.{Level}
use Rattle.gr_ids.specs.declared.levels.MemberState.TheVariants.{Error}
use Rattle.gtid_sets.specs.Sets.{Gtids, has, minus, with_gtid}
use Rattle.key_items.specs.declared.change.Change.{Change}
use Rattle.key_items.specs.declared.change.ChangeKind.{ChangeKind}
use Rattle.key_items.specs.declared.change.ChangeKind.TheVariants.{Insert as Inserts, Update as Updates, Delete as Deletes}
use Rattle.slot_values.specs.declared.value.Value.{Value}
use Rattle.slot_values.specs.declared.value.What.{What}
use Rattle.slot_values.specs.declared.value.What.TheVariants.{Noop, Add, Remove, Body as Says}
use Rattle.txn_forms.specs.declared.body.Txn.{Txn}
use Rattle.txn_forms.specs.declared.body.Part.{Part}
use Rattle.txn_forms.specs.declared.body.Body.{Body}
use Rattle.txn_forms.specs.declared.body.Body.TheVariants.{Txn as HasTxn, Prepared, Sync, Executed, Online as Arrives, Mode as Switches, Primary as Appoints, Part as PartOf}
use Rattle.txn_forms.specs.declared.body.ModeChange.TheVariants.{Multi as ToMulti, Single as ToSingle}
use Rattle.paxos_forms.specs.declared.message.Message.{Message}
use Rattle.paxos_forms.specs.declared.message.Wire.TheVariants.{Offer, Welcome as Greet, Ask as Asks, Give as Gives}
use Rattle.paxos_forms.specs.declared.welcome.Welcome.{Welcome}
use Rattle.paxos_forms.specs.declared.recovery.Give.{Give}
use Rattle.group_rules.specs.declared.requests.Request.{Request}
use Rattle.group_rules.specs.declared.requests.Request.TheVariants.{Begin, Get, Insert, Update, Delete, Commit, Rollback}
use Rattle.group_rules.specs.declared.requests.Operator.{Operator}
use Rattle.group_rules.specs.declared.requests.Operator.TheVariants.{Campaign, Tell, Leave, SetPrimary, Single as SetSingle, Multi as SetMulti, AskDonor, DonorFailed, Finish}
use Rattle.group_rules.specs.declared.answers.Holder.{Holder}
use Rattle.group_rules.specs.declared.answers.Answer.{Answer}
use Rattle.group_rules.specs.declared.answers.Answer.TheVariants.{Held, Got, Sent, CommittedEmpty, Committed as CommittedAs, RolledBack, Busy, NoTransaction, NotOnline, RowLocked, Killed, Conflict as ConflictWith, HoldTimeout, MemberLeft}
use Rattle.group_rules.specs.declared.marks.Cause.{Cause}
use Rattle.group_rules.specs.declared.marks.Cause.TheVariants.{Majority as NoMajority, Extra, NoDonor}
use Rattle.group_rules.specs.declared.marks.Effect.TheVariants.{Conflict as Conflicts}
use Rattle.group_rules.specs.declared.marks.Reply.TheVariants.{Sent as SentAs, Ballot as AtBallot, Asked, Failed, Finished, NotOnline as IsNotOnline, NoAskDue, NoAskPending, NotQueued, AlreadyDone}
use Rattle.node_rules.specs.declared.event.PaxosEvent.TheVariants.{Own, Tick, Campaign as CampaignEvent}
use Rattle.node_rules.specs.Node.{quiet}
use Rattle.node_rules.specs.Step.{node_step}
use Rattle.node_rules.specs.World.{Campaigns, Proposes}
use Rattle.node_rules.specs.World.{Ticks as NodeTicks}
use Rattle.group_rules.specs.View.{seated}
use Rattle.group_rules.specs.Events.{Came, Done, Made, Took, Committed, Is, Gave, Answered, Begun, Changed, Replied, Called, AsksCommit, Ends, Restores, AskFails, Event, Hears, Ticks, Works, Calls, Operates, Life, Entry, Cert}
use Rattle.group_rules.specs.Life.{state, is_up, is_error, is_offline, is_recovering, executed, view, certs, last_made, ticks, entry_at, entered, has_give}
use Rattle.group_rules.specs.Watch.{Watch, watch}
use Rattle.group_rules.specs.Member.{Member, push, by_node, at_node, own, own_body, next_id, answer, last_answer, for_each, leave_session, fall, unanswered, waiting_as}
use Rattle.txn_forms.specs.Bodies.{body_bytes}
use Rattle.group_rules.specs.Sessions.{Phase, Free, Holding, Active, Asking, phase, is_holding, is_asking, sessions, Call, last_call, changes}
use Rattle.group_rules.specs.Keys.{killed, was_left, holder}
use Rattle.group_rules.specs.Rows.{row_then}
use Rattle.group_rules.specs.Holds.{has_sync, sync_told}
use Rattle.group_rules.specs.Queue.{pending, at_place, queue, is_own}
use Rattle.group_rules.specs.Commit.{may_commit, owes_prepared}
use Rattle.name_forms.specs.OpenParts.{part_size}
use Rattle.txn_forms.specs.Parts.{whole_bytes, most_bytes}
use Rattle.group_rules.specs.Parts.{cut, cut_from}
use Rattle.group_rules.specs.Calls.{begin, send_sync, change_row, unless_locked, statement, own_part, ask_commit, send_parts, send_txn, commit_bytes, commit_changes, in_transaction, without_transaction, by_phase, unless_killed, call, misfit, state_then, read_only, is_read_only, txn_of}
use Rattle.group_rules.specs.Welcomes.{hear_welcome}
use Rattle.node_rules.specs.Welcoming.{is_in_order, is_for}
use Rattle.node_rules.specs.Lists.{In}
use Rattle.node_rules.proofs.Incs.{inc_same}
use Rattle.group_rules.specs.Recovery.{is_ask_due, is_awaited, is_possible, add_place, fail_ask, check_donor, check_ask, unless_self, ask_wire, ask_donor, donor_failed, give_at, restore, take_give, hear_give, pending_ask, certs_given}
use Rattle.group_rules.specs.Points.{asks_this, commit_all, prepare_all, begin_all, arrive, point, commit_one, answer_own, answer_commit, prepare_one, begin_one, begin_by, unless_pending}
use Rattle.group_rules.specs.Taking.{answer_conflict, on_conflict, propose}
use Rattle.group_rules.specs.Steps.{hear_add, done_of, time_out, time_out_by, expel_one, campaign_if_due, look_after, tell_at, member_tick, tick_on, tick_once, add_of, reply_ballot, reply_sent, if_online, leave, operate, held_mark}
use Rattle.group_bridge.specs.Left.{IsPast, Fallen, Refused, Settled, IsEnded, Unasked, WasKilled, WasLeft, Over, IsOpen, txn_then, MadeParts, HoldsRightly, with_all, AreOf, IsAnswered, IsEntered, IsRestored}
use Rattle.group_bridge.specs.Moves.{Moves, Stays, Leaves, Sends, Acts, Makes, Welcomes, Then}
use Rattle.group_bridge.proofs.Lists.{in_left, in_right, in_either}

past_itself : (l : Life) → IsPast l l
past_itself [] = refl
past_itself (d ∷ l) = inl refl

-- the message is what came last
abbrev pub HeardLast : Message → Member → Type 0
HeardLast m a = (past : Life) × (a.life ≡ Came (Hears m) ∷ past)

is_holding-phase : (p : Phase) → is_holding p ≡ true → p ≡ Holding
is_holding-phase Free e = absurd (false≢true e)
is_holding-phase Holding e = refl
is_holding-phase Active e = absurd (false≢true e)
is_holding-phase (Asking i) e = absurd (false≢true e)

-- those of fewer are those of more
of_more : (cs : List Cert) (c : Cert) (gs : List Gtid) → AreOf cs gs → AreOf (cs ++ c ∷ []) gs
of_more cs c [] h = tt
of_more cs c (g ∷ gs) h = ((h.0.0, in_left h.0.0 cs (c ∷ []) h.0.1, h.0.2), of_more cs c gs h.1)

-- an answer ends nothing
ended_still : (t s : ℕ) (x : Answer) (l : Life) → IsEnded l s → IsEnded (Answered t x ∷ l) s
ended_still t s x l (Unasked h) = Unasked h
ended_still t s x l (WasKilled g h) = WasKilled g h
ended_still t s x l (WasLeft h) = WasLeft h
ended_still t s x l (Over id h (Fallen k)) = Over id h (Fallen k)
ended_still t s x l (Over id h (Refused y g past k v c)) = Over id h (Refused y g past (inr k) v c)
ended_still t s x l (Over id h (Settled c past k m v)) = Over id h (Settled c past (inr k) m v)

ended_in : (p : Phase) (l : Life) (s : ℕ) → phase l s ≡ p → is_asking p ≡ false → IsEnded l s
ended_in p l s e h = Unasked (ap is_asking e ∙ h)

id_same : (i j : ValueId) → id_eq i j ≡ true → i ≡ j
id_same i j h =
    let x = and_parts (inc_eq i.origin j.origin) (eqb i.number j.number) h in
    let y = and_parts (eqb i.origin.server j.origin.server) (eqb i.origin.start j.origin.start) x.0 in
    let a : i.origin.server ≡ j.origin.server = eqb-true i.origin.server j.origin.server y.0 in
    let b : i.origin.start ≡ j.origin.start = eqb-true i.origin.start j.origin.start y.1 in
    let n : i.number ≡ j.number = eqb-true i.number j.number x.1 in
    λ k. record { origin = record { server = a k; start = b k }; number = n k }

eqb_false : (a b : ℕ) → (a ≡ b → ⊥) → (a == b) ≡ false
eqb_false a b h = elim (cases_Bool (eqb a b)) [ inl q ↦ absurd (h (eqb-true a b q)) | inr q ↦ q ]

le_true : (a b : ℕ) → nat_le a b ≡ true → a ≤ b
le_true a b h = leb-true a b h

le_false : (a b : ℕ) → nat_le a b ≡ false → b < a
le_false a b h = leb-false a b h

module _ (e : Event) where
  either : {a x y : Member} → (b : Bool) → Moves e a x → Moves e a y → Moves e a (elim b [ true ↦ x | false ↦ y ])
  either true p q = p
  either false p q = q

  either_not : {a x y : Member} → (b : Bool) → Moves e a x → Moves e a y → Moves e a (elim b [ false ↦ x | true ↦ y ])
  either_not false p q = p
  either_not true p q = q

  -- the first where the test passes
  where_true : {a x y : Member} → (b : Bool) → (b ≡ true → Moves e a x) → Moves e a y → Moves e a (elim b [ true ↦ x | false ↦ y ])
  where_true true p q = p refl
  where_true false p q = q

  where_false : {a x y : Member} → (b : Bool) → Moves e a x → (b ≡ false → Moves e a y) → Moves e a (elim b [ true ↦ x | false ↦ y ])
  where_false true p q = p
  where_false false p q = q refl

  where_both : {a x y : Member} → (b : Bool) → (b ≡ true → Moves e a x) → (b ≡ false → Moves e a y) → Moves e a (elim b [ true ↦ x | false ↦ y ])
  where_both true p q = p refl
  where_both false p q = q refl

  where_not : {a x y : Member} → (b : Bool) → Moves e a x → (b ≡ true → Moves e a y) → Moves e a (elim b [ false ↦ x | true ↦ y ])
  where_not false p q = p
  where_not true p q = q refl

  -- ---- small acts

  -- an own value is one of its node's own
  pub moves_own : (w : What) (holds : Option Body) (a : Member) → HoldsRightly a.setup a.me.inc a.life (record { id = next_id a; what = w }) holds → Moves e a (own w holds a)
  moves_own w holds a h = go (inc_eq a.me.inc a.me.inc) (inc_same a.me.inc) (Makes v holds a (record { origin = refl; number = refl; rightly = h }))
    where
      v : Value
      v = record { id = next_id a; what = w }

      b : Member
      b = push (Made v holds) a

      go : (c : Bool) → c ≡ true → Moves e a (by_node (λ n. if c then node_step (Own v) n else quiet n) b) → Moves e a (at_node (Own v) b)
      go true q m = m
      go false q m = absurd (false≢true q)

  pub moves_own_body : (b : Body) (a : Member) → HoldsRightly a.setup a.me.inc a.life (record { id = next_id a; what = Says (body_bytes b) }) (Some b) → Moves e a (own_body b a)
  moves_own_body b a h = moves_own (Says (body_bytes b)) (Some b) a h

  -- an own Add or Remove
  moves_own_change : (w : What) (a : Member) → ((b : List ℕ) → w ≡ Says b → ⊥) → Moves e a (own w None a)
  moves_own_change w a h = moves_own w None a h

  pub moves_last : (s : ℕ) (x : Answer) (a : Member) → IsAnswered a.me.inc a.life x → IsEnded a.life s → Moves e a (last_answer s x a)
  moves_last s x a h d = Then (Leaves (Answered s x) a h) (Leaves (Ends s) (push (Answered s x) a) (ended_still s s x a.life d))

  pub moves_each : {A : Type 0} → (f : A → Member → Member) → ((x : A) (a : Member) → Moves e a (f x a)) → (xs : List A) (a : Member) → Moves e a (for_each f xs a)
  moves_each f h [] a = Stays a
  moves_each f h (x ∷ xs) a = Then (h x a) (moves_each f h xs (f x a))

  -- one after another, each where what holds before it still holds
  moves_while : {A : Type 0} → (P : Member → Type 0) (f : A → Member → Member) → ((x : A) (a : Member) → P a → Moves e a (f x a)) → ((x : A) (a : Member) → P a → P (f x a)) → (xs : List A) (a : Member) → P a → Moves e a (for_each f xs a)
  moves_while P f h k [] a p = Stays a
  moves_while P f h k (x ∷ xs) a p = Then (h x a p) (moves_while P f h k xs (f x a) (k x a p))

  abbrev HasFallen : Member → Type 0
  HasFallen a = is_error (state a.life) ≡ true

  moves_unanswered : (s : ℕ) (i : ValueId) (o : Option Cert) (a : Member) → IsEnded a.life s → Moves e a (last_answer s (unanswered i o) a)
  moves_unanswered s i None a d = moves_last s (unanswered i None) a tt d
  moves_unanswered s i (Some c) a d = moves_last s (unanswered i (Some c)) a tt d

  moves_leave : (s : ℕ) (a : Member) → HasFallen a → Moves e a (leave_session s a)
  moves_leave s a f = go (phase a.life s) refl
    where
      go : (p : Phase) → phase a.life s ≡ p → Moves e a (elim p [ Free ↦ a | Holding ↦ last_answer s MemberLeft a | Active ↦ a | Asking i ↦ last_answer s (unanswered i (waiting_as (pending a.life) i)) a ])
      go Free q = Stays a
      go Holding q = moves_last s MemberLeft a tt (ended_in Holding a.life s q refl)
      go Active q = Stays a
      go (Asking i) q = moves_unanswered s i (waiting_as (pending a.life) i) a (Over i q (Fallen f))

  leave_keeps : (s : ℕ) (a : Member) → HasFallen a → HasFallen (leave_session s a)
  leave_keeps s a f = go (phase a.life s)
    where
      go : (p : Phase) → HasFallen (elim p [ Free ↦ a | Holding ↦ last_answer s MemberLeft a | Active ↦ a | Asking i ↦ last_answer s (unanswered i (waiting_as (pending a.life) i)) a ])
      go Free = f
      go Holding = f
      go Active = f
      go (Asking i) = f

  pub moves_fallen : (c : Cause) (a : Member) → Moves e (push (Is Error c) a) (fall c a)
  moves_fallen c a = moves_while HasFallen leave_session moves_leave leave_keeps (sessions (push (Is Error c) a).life) (push (Is Error c) a) refl

  pub moves_fall : (c : Cause) (a : Member) → Moves e a (fall c a)
  moves_fall c a = Then (Leaves (Is Error c) a tt) (moves_fallen c a)

  -- ---- session calls

  -- the call is what came last
  abbrev pub CalledLast : ℕ → Request → Member → Type 0
  CalledLast s r a = (past : Life) × (a.life ≡ Came (Calls s r) ∷ past)

  moves_sync : (v : Level) (a : Member) → Moves e a (send_sync v a)
  moves_sync v a = either (has_sync v) (moves_own_body Sync a refl) (Stays a)

  moves_begin : (s : ℕ) (v : Level) (w : ℕ) (a : Member) → phase a.life s ≡ Free → CalledLast s (Begin v w) a → Moves e a (begin s v w a)
  moves_begin s v w a f h = either _ (Leaves (Answered s (NotOnline (state a.life))) a tt) (Then (Leaves (Called s v w) a (f, h)) (moves_sync v (push (Called s v w) a)))

  moves_misfit : (s : ℕ) (k : ChangeKind) (a : Member) → Moves e a (answer s (misfit k) a)
  moves_misfit s (Inserts v) a = Leaves (Answered s (misfit (Inserts v))) a tt
  moves_misfit s (Updates v) a = Leaves (Answered s (misfit (Updates v))) a tt
  moves_misfit s Deletes a = Leaves (Answered s (misfit Deletes)) a tt

  moves_change : (s : ℕ) (c : Change) (a : Member) → IsOpen a.life s → is_up (state_then (last_call a.life s)) ≡ true → holder a.life a.me.inc s c.item ≡ None → Moves e a (change_row s c a)
  moves_change s c a o u h = where_true _ (λ f. Leaves (Changed s c) a (record { is_open = o; was_up = u; free = h; fits = f })) (moves_misfit s c.what a)

  moves_unless_locked : (s : ℕ) (c : Change) (h : Option Holder) (a : Member) → IsOpen a.life s → is_up (state_then (last_call a.life s)) ≡ true → holder a.life a.me.inc s c.item ≡ h → Moves e a (unless_locked s c h a)
  moves_unless_locked s c None a o u q = moves_change s c a o u q
  moves_unless_locked s c (Some h) a o u q = Leaves (Answered s (RowLocked h)) a tt

  moves_statement : (s : ℕ) (c : Change) (a : Member) → IsOpen a.life s → Moves e a (statement s c a)
  moves_statement s c a o = go (is_up (state_then (last_call a.life s))) refl
    where
      go : (b : Bool) → is_up (state_then (last_call a.life s)) ≡ b → Moves e a (elim b [ false ↦ answer s (NotOnline (state_then (last_call a.life s))) a | true ↦ elim (is_read_only a) [ true ↦ answer s (read_only a) a | false ↦ unless_locked s c (holder a.life a.me.inc s c.item) a ] ])
      go false u = Leaves (Answered s (NotOnline (state_then (last_call a.life s)))) a tt
      go true u = either (is_read_only a) (Leaves (Answered s (read_only a)) a tt) (moves_unless_locked s c (holder a.life a.me.inc s c.item) a o u refl)

  one_more : (n : ℕ) → n + 1 ≡ suc n
  one_more n = omega arith

  moved : (n k : ℕ) → n + suc (suc k) ≡ suc n + suc k
  moved n k = omega arith

  cut_length : (k c : ℕ) (b : List ℕ) → length (cut_from k c b) ≡ k
  cut_length zero c b = refl
  cut_length (suc k) c b = ap suc (cut_length k c (drop part_size b))

  open_ends : (s : ℕ) (a : Member) → IsOpen a.life s → IsEnded a.life s
  open_ends s a o = ended_in Active a.life s o.active refl

  -- the parts of a large transaction, from one on: those before it were made
  moves_cut : (t : Txn) (s : ℕ) (id : ValueId) (past : Life) → IsOpen past s → (changes past s ≡ [] → ⊥) → t ≡ txn_then past s → whole_bytes < length (body_bytes (HasTxn t)) → length (body_bytes (HasTxn t)) ≤ most_bytes →
      (k c : ℕ) (b : List ℕ) (done : List Part) (a : Member) → id ≡ record { origin = a.me.inc; number = last_made a.life + k } → k ≤ c → MadeParts done a.life (AsksCommit s id ∷ past) → reverse done ++ cut_from k c b ≡ cut (body_bytes (HasTxn t)) →
      Moves e a (for_each (own_part t) (cut_from k c b) a)
  moves_cut t s id past o ne q large most zero c b done a n h m r = Stays a
  moves_cut t s id past o ne q large most (suc zero) c b done a n h m r = go (p.index == p.count) (eq-eqb p.index p.count (omega arith))
    where
      p : Part
      p = record { index = c - 0; count = c; bytes = take part_size b }

      go : (x : Bool) → x ≡ true → Moves e a (own (Says (body_bytes (PartOf p))) (Some (elim x [ true ↦ HasTxn t | false ↦ PartOf p ])) a)
      go true y = moves_own (Says (body_bytes (PartOf p))) (Some (HasTxn t)) a (record { session = s; id = id; past = past; asked_as = n ∙ ap (λ x. record { origin = a.me.inc; number = x }) (one_more (last_made a.life)); is_open = o; some_changes = ne; txn = q; parts = done; since = m; bytes = inr (p, refl, large, reverse-append (p ∷ []) done ∙ r); most = most })
      go false y = absurd (false≢true y)
  moves_cut t s id past o ne q large most (suc (suc k)) c b done a n h m r = go (p.index == p.count) off (moves_cut t s id past o ne q large most (suc k) c (drop part_size b) (p ∷ done) next (n ∙ ap (λ x. record { origin = a.me.inc; number = x }) (moved (last_made a.life) k)) (omega arith) since more)
    where
      p : Part
      p = record { index = c - suc k; count = c; bytes = take part_size b }

      off : (p.index == p.count) ≡ false
      off = eqb_false p.index p.count (omega arith)

      next : Member
      next = own (Says (body_bytes (PartOf p))) (Some (PartOf p)) a

      since : MadeParts (p ∷ done) next.life (AsksCommit s id ∷ past)
      since = (record { id = next_id a; what = Says (body_bytes (PartOf p)) }, a.life, refl, m)

      more : reverse (p ∷ done) ++ cut_from (suc k) c (drop part_size b) ≡ cut (body_bytes (HasTxn t))
      more = ap (λ l. l ++ cut_from (suc k) c (drop part_size b)) (reverse-append (p ∷ []) done) ∙ (append_assoc (reverse done) (p ∷ []) (cut_from (suc k) c (drop part_size b)) ∙ r)

      go : (x : Bool) → x ≡ false → Moves e next (for_each (own_part t) (cut_from (suc k) c (drop part_size b)) next) → Moves e a (for_each (own_part t) (cut_from (suc k) c (drop part_size b)) (own (Says (body_bytes (PartOf p))) (Some (elim x [ true ↦ HasTxn t | false ↦ PartOf p ])) a))
      go true y w = absurd (false≢true (sym y))
      go false y w = Then (moves_own (Says (body_bytes (PartOf p))) (Some (PartOf p)) a (refl, off)) w

  moves_ask_commit : (s n : ℕ) (f : Member → Member) (a : Member) → IsOpen a.life s → (let i : ValueId = record { origin = a.me.inc; number = n } in Moves e (push (AsksCommit s i) a) (f (push (AsksCommit s i) a))) → Moves e a (ask_commit s n f a)
  moves_ask_commit s n f a o h =
      let i : ValueId = record { origin = a.me.inc; number = n } in
      Then (Leaves (AsksCommit s i) a o) (Then h (Leaves (Answered s (Sent i)) (f (push (AsksCommit s i) a)) tt))

  moves_parts : (s : ℕ) (a : Member) → IsOpen a.life s → (changes a.life s ≡ [] → ⊥) → whole_bytes < length (body_bytes (HasTxn (txn_of s a))) → length (body_bytes (HasTxn (txn_of s a))) ≤ most_bytes → Moves e a (send_parts s (txn_of s a) (cut (body_bytes (HasTxn (txn_of s a)))) a)
  moves_parts s a o ne large most =
      let t : Txn = txn_of s a in
      let b : List ℕ = body_bytes (HasTxn t) in
      let i : ValueId = record { origin = a.me.inc; number = last_made a.life + length (cut b) } in
      let c : ℕ = (length b + part_size - 1) / part_size in
      moves_ask_commit s (last_made a.life + length (cut b)) (for_each (own_part t) (cut b)) a o (moves_cut t s i a.life o ne refl large most c c b [] (push (AsksCommit s i) a) (ap (λ x. record { origin = a.me.inc; number = last_made a.life + x }) (cut_length c c b)) (omega arith) refl refl)

  moves_send_txn : (s : ℕ) (a : Member) → IsOpen a.life s → (changes a.life s ≡ [] → ⊥) → length (body_bytes (HasTxn (txn_of s a))) ≤ most_bytes → Moves e a (send_txn s (txn_of s a) (body_bytes (HasTxn (txn_of s a))) a)
  moves_send_txn s a o ne most = go (nat_le (length b) whole_bytes) refl
    where
      t : Txn
      t = txn_of s a

      b : List ℕ
      b = body_bytes (HasTxn t)

      i : ValueId
      i = record { origin = a.me.inc; number = last_made a.life + 1 }

      go : (x : Bool) → nat_le (length b) whole_bytes ≡ x → Moves e a (elim x [ true ↦ ask_commit s (last_made a.life + 1) (own (Says b) (Some (HasTxn t))) a | false ↦ send_parts s t (cut b) a ])
      go true y = moves_ask_commit s (last_made a.life + 1) (own (Says b) (Some (HasTxn t))) a o
          (moves_own (Says b) (Some (HasTxn t)) (push (AsksCommit s i) a) (record { session = s; id = i; past = a.life; asked_as = ap (λ x. record { origin = a.me.inc; number = x }) (one_more (last_made a.life)); is_open = o; some_changes = ne; txn = refl; parts = []; since = refl; bytes = inl (refl, refl, le_true (length b) whole_bytes y); most = most }))
      go false y = moves_parts s a o ne (le_false (length b) whole_bytes y) most

  moves_commit_bytes : (s : ℕ) (a : Member) → IsOpen a.life s → (changes a.life s ≡ [] → ⊥) → Moves e a (commit_bytes s (txn_of s a) (body_bytes (HasTxn (txn_of s a))) a)
  moves_commit_bytes s a o ne = where_false _ (moves_last s _ a tt (open_ends s a o)) (λ f. moves_send_txn s a o ne (ltb-false most_bytes (length (body_bytes (HasTxn (txn_of s a)))) f))

  moves_commit_changes : (s : ℕ) (cs : List Change) (a : Member) → changes a.life s ≡ cs → IsOpen a.life s → Moves e a (commit_changes s cs a)
  moves_commit_changes s [] a q o = moves_last s CommittedEmpty a tt (open_ends s a o)
  moves_commit_changes s (c ∷ cs) a q o = either _ (moves_last s (read_only a) a tt (open_ends s a o)) (moves_commit_bytes s a o (λ k. let z : c ∷ cs ≡ [] = sym q ∙ k in absurd (cc z)))

  moves_in : (s : ℕ) (r : Request) (a : Member) → IsOpen a.life s → Moves e a (in_transaction s r a)
  moves_in s (Begin v w) a o = Leaves (Answered s Busy) a tt
  moves_in s (Get i) a o = Leaves (Answered s (Got (row_then a.life s i))) a tt
  moves_in s (Insert i r) a o = moves_statement s (record { item = i; what = Inserts r }) a o
  moves_in s (Update i r) a o = moves_statement s (record { item = i; what = Updates r }) a o
  moves_in s (Delete i) a o = moves_statement s (record { item = i; what = Deletes }) a o
  moves_in s Commit a o = moves_commit_changes s (changes a.life s) a refl o
  moves_in s Rollback a o = moves_last s RolledBack a tt (open_ends s a o)

  moves_without : (s : ℕ) (r : Request) (a : Member) → phase a.life s ≡ Free → CalledLast s r a → Moves e a (without_transaction s r a)
  moves_without s (Begin v w) a f h = moves_begin s v w a f h
  moves_without s (Get i) a f h = Leaves (Answered s NoTransaction) a tt
  moves_without s (Insert i r) a f h = Leaves (Answered s NoTransaction) a tt
  moves_without s (Update i r) a f h = Leaves (Answered s NoTransaction) a tt
  moves_without s (Delete i) a f h = Leaves (Answered s NoTransaction) a tt
  moves_without s Commit a f h = Leaves (Answered s NoTransaction) a tt
  moves_without s Rollback a f h = Leaves (Answered s NoTransaction) a tt

  moves_by_phase : (s : ℕ) (r : Request) (p : Phase) (a : Member) → phase a.life s ≡ p → killed a.life s ≡ None → was_left a.life s ≡ false → CalledLast s r a → Moves e a (by_phase s r p a)
  moves_by_phase s r Free a f k w h = moves_without s r a f h
  moves_by_phase s r Holding a f k w h = Leaves (Answered s Busy) a tt
  moves_by_phase s r Active a f k w h = moves_in s r a (record { active = f; unkilled = k; stayed = w })
  moves_by_phase s r (Asking i) a f k w h = Leaves (Answered s Busy) a tt

  moves_unless_killed : (s : ℕ) (r : Request) (o : Option Gtid) (a : Member) → killed a.life s ≡ o → CalledLast s r a → Moves e a (unless_killed s r o a)
  moves_unless_killed s r (Some g) a k h = moves_last s (Killed g) a tt (WasKilled g k)
  moves_unless_killed s r None a k h = where_both _ (λ w. moves_last s MemberLeft a tt (WasLeft w)) (λ w. moves_by_phase s r (phase a.life s) a refl k w h)

  pub moves_call : (s : ℕ) (r : Request) (a : Member) → CalledLast s r a → Moves e a (call s r a)
  unfolding call
  moves_call s r a h = moves_unless_killed s r (killed a.life s) a refl h

  -- ---- joining

  pub moves_hear_welcome : (m : Message) (w : Welcome) (a : Member) → HeardLast m a → m.wire ≡ Greet w → Moves e a (hear_welcome w a)
  moves_hear_welcome m w a h q = where_true _ (λ y. Welcomes w a (entered y)) (Stays a)
    where
      entered : (is_offline (state a.life) && (is_in_order w && is_for w a.me.inc a.node.horizon)) ≡ true → IsEntered a.me.inc a.life w
      entered y =
          let x = and_parts (is_offline (state a.life)) _ y in
          let z = and_parts (is_in_order w) _ x.1 in
          record { message = m; past = h.0; heard = h.1; wire = q; horizon = a.node.horizon; offline = subst (λ l. is_offline (state l) ≡ true) h.1 x.0; in_order = z.0; for_it = z.1 }

  moves_fail_ask : (a : Member) → Moves e a (fail_ask a)
  moves_fail_ask a = Then (Leaves AskFails a tt) (either _ (moves_fall (NoDonor 10) (push AskFails a)) (Stays (push AskFails a)))

  moves_check_donor : (o : Option Inc) (a : Member) → Moves e a (check_donor o a)
  moves_check_donor None a = Stays a
  moves_check_donor (Some d) a = either _ (moves_fail_ask a) (Stays a)

  pub moves_check_ask : (a : Member) → Moves e a (check_ask a)
  moves_check_ask a = either _ (moves_check_donor (pending_ask a.life) a) (Stays a)

  moves_ask_donor : (d : Inc) (a : Member) → Moves e a (ask_donor d a)
  moves_ask_donor d a = go (is_ask_due a) refl
    where
      b : Member
      b = push (Replied (Asked d)) a

      ungiven : is_ask_due a ≡ true → has_give a.life ≡ false
      ungiven y = let x = and_parts (is_recovering (state a.life)) _ y in let z = and_parts (not (is_some (pending_ask a.life))) _ x.1 in not-true (has_give a.life) (and_parts (not (has_give a.life)) _ z.1).0

      sends : is_ask_due a ≡ true → Moves e b (unless_self d (ask_wire a) b)
      sends y =
          let x = and_parts (is_recovering (state a.life)) _ y in
          let z = and_parts (not (is_some (pending_ask a.life))) _ x.1 in
          let g = and_parts (not (has_give a.life)) _ z.1 in
          either _ (Stays b) (Sends d (ask_wire a) b refl (x.0, not-true (has_give a.life) g.0, refl))

      go : (x : Bool) → is_ask_due a ≡ x → Moves e a (elim x [ false ↦ push (Replied NoAskDue) a | true ↦ check_ask (unless_self d (ask_wire a) b) ])
      go false y = Leaves (Replied NoAskDue) a tt
      go true y = Then (Leaves (Replied (Asked d)) a (ungiven y)) (Then (sends y) (moves_check_ask (unless_self d (ask_wire a) b)))

  moves_donor_failed : (a : Member) → Moves e a (donor_failed a)
  moves_donor_failed a = either_not _ (Leaves (Replied NoAskPending) a tt) (Then (Leaves (Replied Failed) a tt) (moves_fail_ask (push (Replied Failed) a)))

  moves_give_at : (m : Message) (v : ℕ) (set : Gtids) (o : Option Entry) (a : Member) → HeardLast m a → m.wire ≡ Asks (record { place = v; executed = set }) → entry_at a.life v ≡ o → Moves e a (give_at m.from set o a)
  moves_give_at m v set None a h q t = Stays a
  moves_give_at m v set (Some x) a h q t = where_true _ (λ y. Sends m.from _ a refl (record { message = m; past = h.0; heard = h.1; asker = refl; place = v; set = set; asked = q; add = x; there = t; is_add = y; give = refl })) (Stays a)

  pub moves_ask : (m : Message) (v : ℕ) (set : Gtids) (a : Member) → HeardLast m a → m.wire ≡ Asks (record { place = v; executed = set }) → Moves e a (give_at m.from set (entry_at a.life v) a)
  moves_ask m v set a h q = moves_give_at m v set (entry_at a.life v) a h q refl

  moves_restore : (g : Give) (cs : List Cert) (x : Gtids) (a : Member) → (x ≡ [] → IsRestored a.setup a.life g cs) → Moves e a (restore g cs x a)
  moves_restore g cs [] a h = Leaves (Restores g cs) a (h refl)
  moves_restore g cs (x ∷ xs) a h = moves_fall (Extra (x ∷ xs)) a

  pub moves_give : (m : Message) (g : Give) (a : Member) → HeardLast m a → m.wire ≡ Gives g → Moves e a (hear_give m.from g a)
  moves_give m g a h q = go (is_awaited m.from g a) refl
    where
      cs : List Cert
      cs = certs_given g.txns

      b : Member
      b = push (Gave g.place (length g.txns)) a

      restored : is_awaited m.from g a ≡ true → is_possible a.setup g cs ≡ true → minus (executed a.life) g.certified ≡ [] → IsRestored b.setup b.life g cs
      restored y p n =
          let x = and_parts (is_recovering (state a.life) && is_inc (pending_ask a.life) m.from) _ y in
          let z = and_parts (is_recovering (state a.life)) _ x.0 in
          record {
            message = m;
            count = length g.txns;
            past = h.0;
            heard = ap (λ l. Gave g.place (length g.txns) ∷ l) h.1;
            wire = q;
            recovering = subst (λ l. is_recovering (state l) ≡ true) h.1 z.0;
            donor = subst (λ l. is_inc (pending_ask l) m.from ≡ true) h.1 z.1;
            place = subst (λ l. (g.place == add_place (entered l)) ≡ true) h.1 x.1;
            certs = refl;
            possible = p;
            no_extra = subst (λ l. minus (executed l) g.certified ≡ []) h.1 n;
          }

      takes : is_awaited m.from g a ≡ true → (x : Bool) → is_possible a.setup g cs ≡ x → Moves e a (elim x [ false ↦ a | true ↦ restore g cs (minus (executed a.life) g.certified) b ])
      takes y false p = Stays a
      takes y true p = Then (Leaves (Gave g.place (length g.txns)) a tt) (moves_restore g cs (minus (executed a.life) g.certified) b (λ n. restored y p n))

      go : (x : Bool) → is_awaited m.from g a ≡ x → Moves e a (elim x [ false ↦ a | true ↦ take_give g cs a ])
      go false y = Stays a
      go true y = takes y (is_possible a.setup g cs) refl

  -- ---- points

  -- a commit is answered after it
  moves_answers : (c : Cert) (past : Life) → In c (certs past) → (ss : List ℕ) (a : Member) → is_own a.me.inc c ≡ true → IsPast (Committed c.gtid ∷ past) a.life → Moves e a (for_each (answer_commit c) ss a)
  moves_answers c past k [] a o p = Stays a
  moves_answers c past k (s ∷ ss) a o p = go (asks_this c (phase a.life s)) refl (moves_answers c past k ss (last_answer s (CommittedAs c.gtid) a) o (inr (inr p))) (moves_answers c past k ss a o p)
    where
      ended : (f : Phase) → phase a.life s ≡ f → asks_this c f ≡ true → IsEnded a.life s
      ended (Asking i) q h = Over i q (Settled c past p k (sym (id_same i c.id h)))
      ended Free q h = absurd (false≢true h)
      ended Holding q h = absurd (false≢true h)
      ended Active q h = absurd (false≢true h)

      go : (x : Bool) → asks_this c (phase a.life s) ≡ x → Moves e (last_answer s (CommittedAs c.gtid) a) (for_each (answer_commit c) ss (last_answer s (CommittedAs c.gtid) a)) → Moves e a (for_each (answer_commit c) ss a) → Moves e a (for_each (answer_commit c) ss (elim x [ true ↦ last_answer s (CommittedAs c.gtid) a | false ↦ a ]))
      go true q y z = Then (moves_last s (CommittedAs c.gtid) a (record { cert = c; past = past; mark = p; certified = k; is_it = refl; own = o }) (ended (phase a.life s) refl q)) y
      go false q y z = z

  -- what an answer leaves as it is
  record Answers (a b : Member) : Type 0 where
    certs : certs b.life ≡ certs a.life
    executed : executed b.life ≡ executed a.life
    past : (p : Life) → IsPast p a.life → IsPast p b.life

  answers_keep : (c : Cert) (ss : List ℕ) (a : Member) → Answers a (for_each (answer_commit c) ss a)
  answers_keep c [] a = record { certs = refl; executed = refl; past = λ p h. h }
  answers_keep c (s ∷ ss) a = go (asks_this c (phase a.life s)) (answers_keep c ss (last_answer s (CommittedAs c.gtid) a)) (answers_keep c ss a)
    where
      go : (x : Bool) → Answers (last_answer s (CommittedAs c.gtid) a) (for_each (answer_commit c) ss (last_answer s (CommittedAs c.gtid) a)) → Answers a (for_each (answer_commit c) ss a) → Answers a (for_each (answer_commit c) ss (elim x [ true ↦ last_answer s (CommittedAs c.gtid) a | false ↦ a ]))
      go true y z = record { certs = y.certs; executed = y.executed; past = λ p h. y.past p (inr (inr h)) }
      go false y z = z

  own_keeps : (c : Cert) (a : Member) → Answers a (answer_own c a)
  own_keeps c a = go (is_own a.me.inc c)
    where
      go : (x : Bool) → Answers a (elim x [ true ↦ for_each (answer_commit c) (sessions a.life) a | false ↦ a ])
      go true = answers_keep c (sessions a.life) a
      go false = record { certs = refl; executed = refl; past = λ p h. h }

  moves_answer_own : (c : Cert) (a : Member) → In c (certs a.life) → Moves e (push (Committed c.gtid) a) (answer_own c (push (Committed c.gtid) a))
  moves_answer_own c a k = where_true _ (λ o. moves_answers c a.life k (sessions (push (Committed c.gtid) a).life) (push (Committed c.gtid) a) o (is_last a.life)) (Stays (push (Committed c.gtid) a))
    where
      is_last : (l : Life) → IsPast (Committed c.gtid ∷ l) (Committed c.gtid ∷ l)
      is_last l = inl refl

  -- those that were pending at the beginning, from one on: `since` was committed of those before it
  moves_commits_from : (begin : Life) (rest first : List Cert) (since : List Gtid) (a : Member) → IsPast begin a.life → pending begin ≡ first ++ rest → ((c : Cert) → In c rest → In c (certs begin)) → certs a.life ≡ certs begin → AreOf first since → executed a.life ≡ with_all (executed begin) since → Moves e a (for_each commit_one rest a)
  moves_commits_from begin [] first since a b p k q h x = Stays a
  moves_commits_from begin (c ∷ cs) first since a b p k q h x = go (may_commit a.setup a.life a.me.inc c) refl
      (moves_commits_from begin cs (first ++ c ∷ []) (c.gtid ∷ since) done (kept.past begin (inr b)) split (λ d z. k d (inr z)) (kept.certs ∙ q) ((c, in_right c first (c ∷ []) (inl refl), refl), of_more first c since h) (kept.executed ∙ ap (λ s. with_gtid s c.gtid) x))
      (moves_commits_from begin cs (first ++ c ∷ []) since a b split (λ d z. k d (inr z)) q (of_more first c since h) x)
    where
      done : Member
      done = answer_own c (push (Committed c.gtid) a)

      kept : Answers (push (Committed c.gtid) a) done
      kept = own_keeps c (push (Committed c.gtid) a)

      split : pending begin ≡ (first ++ c ∷ []) ++ cs
      split = p ∙ sym (append_assoc first (c ∷ []) cs)

      commits : may_commit a.setup a.life a.me.inc c ≡ true → Moves e a done
      commits y = Then (Leaves (Committed c.gtid) a (record { cert = c; is_it = refl; begin = begin; past = b; first = first; rest = cs; pending = p; certs = q; since = since; earlier = h; executed = x; may = y })) (moves_answer_own c a (subst (λ l. In c l) (sym q) (k c (inl refl))))

      go : (y : Bool) → may_commit a.setup a.life a.me.inc c ≡ y → Moves e done (for_each commit_one cs done) → Moves e a (for_each commit_one cs a) → Moves e a (for_each commit_one cs (elim y [ true ↦ done | false ↦ a ]))
      go true y z w = Then (commits y) z
      go false y z w = w

  in_filter : {A : Type 0} (test : A → Bool) (x : A) (xs : List A) → In x (filter test xs) → In x xs
  in_filter test x [] h = h
  in_filter test x (y ∷ ys) h = go (test y) h (in_filter test x ys)
    where
      go : (b : Bool) → In x (if b then y ∷ filter test ys else filter test ys) → (In x (filter test ys) → In x ys) → (y ≡ x) ⊎ In x ys
      go true (inl q) k = inl q
      go true (inr z) k = inr (k z)
      go false z k = inr (k z)

  in_reverse : {A : Type 0} (x : A) (xs : List A) → In x (reverse xs) → In x xs
  in_reverse x [] h = h
  in_reverse x (y ∷ ys) h = elim (in_either x (reverse ys) (y ∷ []) (subst (λ l. In x l) (reverse-append (y ∷ []) ys) h)) [
    | inl z ↦ inr (in_reverse x ys z)
    | inr z ↦ elim z [ inl q ↦ inl q | inr w ↦ absurd w ]
  ]

  pending_certified : (c : Cert) (l : Life) → In c (pending l) → In c (certs l)
  pending_certified c l h = in_reverse c (certs l) (in_filter (λ d. not (has (executed l) d.gtid)) c (reverse (certs l)) h)

  moves_commits : (a : Member) → Moves e a (commit_all a)
  moves_commits a = moves_commits_from a.life (pending a.life) [] [] a (past_itself a.life) refl (λ c h. pending_certified c a.life h) refl tt refl

  moves_prepares_from : (cs : List Cert) (a : Member) → ((c : Cert) → In c cs → In c (pending a.life)) → Moves e a (for_each prepare_one cs a)
  moves_prepares_from [] a h = Stays a
  moves_prepares_from (c ∷ cs) a h = go (owes_prepared a.setup a.life a.me.inc c) refl (moves_prepares_from cs made (λ d z. h d (inr z))) (moves_prepares_from cs a (λ d z. h d (inr z)))
    where
      made : Member
      made = own_body (Prepared c.gtid) a

      go : (y : Bool) → owes_prepared a.setup a.life a.me.inc c ≡ y → Moves e made (for_each prepare_one cs made) → Moves e a (for_each prepare_one cs a) → Moves e a (for_each prepare_one cs (elim y [ true ↦ made | false ↦ a ]))
      go true y z w = Then (moves_own_body (Prepared c.gtid) a (refl, (c, h c (inl refl), refl, y))) z
      go false y z w = w

  moves_begin_by : (s : ℕ) (o : Option Call) (a : Member) → phase a.life s ≡ Holding → last_call a.life s ≡ o → Moves e a (begin_by s o a)
  moves_begin_by s None a f q = Stays a
  moves_begin_by s (Some c) a f q = where_true _ (λ y. Leaves (Begun s (executed a.life) (sync_told a.me.inc c a.life)) a (record { call = c; held = f; is_call = q; released = y; set = refl; sync = refl })) (Stays a)

  moves_begin_one : (s : ℕ) (a : Member) → Moves e a (begin_one s a)
  moves_begin_one s a = where_true _ (λ y. moves_begin_by s (last_call a.life s) a (is_holding-phase (phase a.life s) y) refl) (Stays a)

  moves_begins : (a : Member) → Moves e a (begin_all a)
  moves_begins a = moves_each begin_one moves_begin_one (sessions a.life) a

  moves_unless_pending : (cs : List Cert) (a : Member) → pending a.life ≡ cs → is_recovering (state a.life) ≡ true → has_give a.life ≡ true → Moves e a (unless_pending cs a)
  moves_unless_pending [] a p r g = moves_own_body (Arrives (executed a.life)) a (refl, refl, r, g, p)
  moves_unless_pending (c ∷ cs) a p r g = Stays a

  moves_arrive : (a : Member) → Moves e a (arrive a)
  moves_arrive a = where_true _ (λ y. let x = and_parts (is_recovering (state a.life)) _ y in let z = and_parts (has_give a.life) _ x.1 in moves_unless_pending (pending a.life) a refl x.0 z.0) (Stays a)

  pub moves_point : (a : Member) → Moves e a (point a)
  unfolding point
  moves_point a =
      either _ (moves_begins a)
      (Then (moves_commits a) (Then (moves_prepares_from (pending (commit_all a).life) (commit_all a) (λ c h. h)) (Then (moves_begins (prepare_all (commit_all a))) (moves_arrive (begin_all (prepare_all (commit_all a)))))))

  -- ---- what an entry causes, but for a Welcome and the own state ONLINE

  -- the entry with this conflict was taken
  abbrev TookRefused : Entry → Member → Type 0
  TookRefused x a = (past : Life) × IsPast (Took x ∷ past) a.life

  moves_answer_conflict : (x : Entry) (g : Gtid) → x.effect ≡ Conflicts g → (s : ℕ) (a : Member) → TookRefused x a → Moves e a (answer_conflict x.value.id g s a)
  moves_answer_conflict x g c s a h = go (phase a.life s) refl
    where
      go : (p : Phase) → phase a.life s ≡ p → Moves e a (elim p [ Asking j ↦ elim (id_eq x.value.id j) [ true ↦ last_answer s (ConflictWith g) a | false ↦ a ] | _ ↦ a ])
      go Free q = Stays a
      go Holding q = Stays a
      go Active q = Stays a
      go (Asking j) q = where_true _ (λ y. moves_last s (ConflictWith g) a tt (Over j q (Refused x g h.0 h.1 (id_same x.value.id j y) c))) (Stays a)

  conflict_keeps : (x : Entry) (g : Gtid) (s : ℕ) (a : Member) → TookRefused x a → TookRefused x (answer_conflict x.value.id g s a)
  conflict_keeps x g s a h = go (phase a.life s)
    where
      asked : (b : Bool) → TookRefused x (elim b [ true ↦ last_answer s (ConflictWith g) a | false ↦ a ])
      asked true = (h.0, inr (inr h.1))
      asked false = h

      go : (p : Phase) → TookRefused x (elim p [ Asking j ↦ elim (id_eq x.value.id j) [ true ↦ last_answer s (ConflictWith g) a | false ↦ a ] | _ ↦ a ])
      go Free = h
      go Holding = h
      go Active = h
      go (Asking j) = asked (id_eq x.value.id j)

  pub moves_on_conflict : (x : Entry) (g : Gtid) (a : Member) → x.effect ≡ Conflicts g → TookRefused x a → Moves e a (on_conflict x.value.id g a)
  moves_on_conflict x g a c h = moves_while (TookRefused x) (answer_conflict x.value.id g) (moves_answer_conflict x g c) (conflict_keeps x g) (sessions a.life) a h

  pub moves_propose : (a : Member) → Moves e a (propose a)
  moves_propose a = either _ (Stays a) (Acts Proposes a refl)

  -- ---- actions

  pub moves_hear_add : (w : What) (a : Member) → Moves e a (hear_add w a)
  moves_hear_add (Add j) a = either _ (moves_own_change (Add j) a (λ b q. absurd (cc q))) (Stays a)
  moves_hear_add Noop a = Stays a
  moves_hear_add (Remove i) a = Stays a
  moves_hear_add (Says b) a = Stays a

  moves_done : (p : ℕ) (b : Option (List ℕ)) (o : Option Cert) (a : Member) → at_place (queue a.life a.me.inc) p ≡ o → Moves e a (done_of p b o a)
  moves_done p None o a q = Leaves (Replied (NotQueued p)) a tt
  moves_done p (Some b) None a q = Leaves (Replied (NotQueued p)) a tt
  moves_done p (Some b) (Some c) a q = either_not _ (Leaves (Replied (NotQueued p)) a tt) (where_false _ (Leaves (Replied (AlreadyDone p)) a tt) (λ y. Leaves (Done p) a (c, q, y)))

  pub moves_work : (p : ℕ) (b : Option (List ℕ)) (a : Member) → Moves e a (done_of p b (at_place (queue a.life a.me.inc) p) a)
  moves_work p b a = moves_done p b (at_place (queue a.life a.me.inc) p) a refl

  moves_time_out_by : (s : ℕ) (o : Option Call) (a : Member) → phase a.life s ≡ Holding → Moves e a (time_out_by s o a)
  moves_time_out_by s None a h = Stays a
  moves_time_out_by s (Some c) a h = either _ (moves_last s (HoldTimeout c.limit) a tt (ended_in Holding a.life s h refl)) (Stays a)

  moves_time_out : (s : ℕ) (a : Member) → Moves e a (time_out s a)
  moves_time_out s a = where_true _ (λ y. moves_time_out_by s (last_call a.life s) a (is_holding-phase (phase a.life s) y)) (Stays a)

  moves_remove : (i : Inc) (a : Member) → Moves e a (own (Remove i) None a)
  moves_remove i a = moves_own_change (Remove i) a (λ b q. absurd (cc q))

  moves_expel : (w : Watch) (i : Inc) (a : Member) → Moves e a (expel_one w i a)
  moves_expel w i a = either _ (moves_remove i a) (Stays a)

  moves_campaign : (w : Watch) (a : Member) → Moves e a (campaign_if_due w a)
  moves_campaign w a = either _ (Acts Campaigns a refl) (Stays a)

  moves_look_after : (w : Watch) (a : Member) → Moves e a (look_after w a)
  moves_look_after w a =
      let is : List Inc = seated (view a.setup a.life).seats in
      either _ (Then (moves_each (expel_one w) (moves_expel w) is a) (moves_campaign w (for_each (expel_one w) is a))) (Stays a)

  moves_executed : (a : Member) → Moves e a (own_body (Executed (executed a.life)) a)
  moves_executed a = moves_own_body (Executed (executed a.life)) a (refl, refl)

  moves_tell : (n : ℕ) (a : Member) → Moves e a (tell_at n a)
  moves_tell n a = either _ (moves_executed a) (Stays a)

  moves_member_tick : (w : Watch) (a : Member) → Moves e a (member_tick w a)
  moves_member_tick w a =
      let b : Member = at_node Tick a in
      either _ (moves_fall NoMajority a) (Then (Acts NodeTicks a refl) (Then (moves_look_after w b) (moves_tell (ticks a.life) (look_after w b))))

  moves_tick_on : (a : Member) → Moves e a (tick_on a)
  moves_tick_on a = either _ (Sends a.contact (Offer (add_of a.me)) a refl refl) (moves_member_tick (watch a.setup a.me.inc a.life) a)

  pub moves_tick_once : (a : Member) → Moves e a (tick_once a)
  moves_tick_once a = Then (moves_each time_out moves_time_out (sessions a.life) a) (moves_tick_on (for_each time_out (sessions a.life) a))

  moves_reply_sent : (f : Member → Member) (a : Member) → Moves e a (f a) → Moves e a (reply_sent f a)
  moves_reply_sent f a h = Then h (Leaves (Replied (SentAs (next_id a))) (f a) tt)

  moves_if_online : (f : Member → Member) (a : Member) → Moves e a (f a) → Moves e a (if_online f a)
  moves_if_online f a h = either _ h (Leaves (Replied (IsNotOnline (state a.life))) a tt)

  moves_reply_ballot : (a : Member) → Moves e a (reply_ballot a)
  moves_reply_ballot a = Leaves (Replied (AtBallot a.node.acceptor.promise)) a tt

  moves_leave_group : (a : Member) → Moves e a (leave a)
  moves_leave_group a = moves_reply_sent (own (Remove a.me.inc) None) a (moves_remove a.me.inc a)

  moves_body_sent : (b : Body) (a : Member) → HoldsRightly a.setup a.me.inc a.life (record { id = next_id a; what = Says (body_bytes b) }) (Some b) → Moves e a (reply_sent (own_body b) a)
  moves_body_sent b a h = moves_reply_sent (own_body b) a (moves_own_body b a h)

  pub moves_operate : (o : Operator) (a : Member) → Moves e a (operate o a)
  moves_operate Campaign a = moves_if_online (λ b. reply_ballot (at_node CampaignEvent b)) a (Then (Acts Campaigns a refl) (moves_reply_ballot (at_node CampaignEvent a)))
  moves_operate Tell a = moves_if_online (λ b. reply_sent (own_body (Executed (executed b.life))) b) a (moves_body_sent (Executed (executed a.life)) a (refl, refl))
  moves_operate Leave a = either _ (moves_leave_group a) (moves_if_online leave a (moves_leave_group a))
  moves_operate (SetPrimary i) a = moves_if_online (reply_sent (own_body (Appoints i))) a (moves_body_sent (Appoints i) a refl)
  moves_operate (SetSingle i) a = moves_if_online (reply_sent (own_body (Switches (ToSingle i)))) a (moves_body_sent (Switches (ToSingle i)) a refl)
  moves_operate SetMulti a = moves_if_online (reply_sent (own_body (Switches ToMulti))) a (moves_body_sent (Switches ToMulti) a refl)
  moves_operate (AskDonor d) a = moves_ask_donor d a
  moves_operate DonorFailed a = moves_donor_failed a
  moves_operate Finish a = Leaves (Replied Finished) a tt

  pub moves_held : (x : Event) (a : Member) → Moves e a (held_mark x a)
  moves_held (Calls s r) a = either _ (Leaves (Answered s Held) a tt) (Stays a)
  moves_held (Hears m) a = Stays a
  moves_held Ticks a = Stays a
  moves_held (Works p b) a = Stays a
  moves_held (Operates o) a = Stays a
