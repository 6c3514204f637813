-- Every run: one log, and each incarnation follows it.
use Rattle.std.proofs.Common.{leb, map, ◌≡◌, ◌⊎◌, inl, inr, ℕ, suc, ◌≤◌, ◌<◌, Bool, true, false, Option, Some, None, List, [], ◌∷◌, append-nil, refl, sym, ap, subst, ◌∙◌, length, take, arith}
use Rattle.std.specs.Prelude.{not, filter, nat_le}
use Rattle.gtid_sets.specs.Sets.{minus}
use Rattle.paxos_forms.specs.declared.message.Wire.TheVariants.{Ask as Asks}
use Rattle.std.proofs.lemmas.Bool.{false≢true, cases_Bool, and_parts, eqb-true, leb-true, leb-false}
use Rattle.gr_ids.specs.Names.{inc_eq, is_inc}
use Rattle.gr_ids.specs.declared.names.Inc.{Inc}
use Rattle.slot_values.specs.declared.value.Value.{Value}
use Rattle.slot_values.specs.declared.value.What.TheVariants.{Noop}
use Rattle.slot_values.specs.Values.{is_noop}
use Rattle.slot_values.specs.declared.kept.Kept.{Kept}
use Rattle.slot_values.specs.declared.kept.Kept.TheVariants.{At as KeptAt, Skipped as IsSkipped}
use Rattle.slot_values.specs.Log.{Reading, is_next, is_kept, became, after}
use Rattle.paxos_forms.specs.declared.welcome.Welcome.{Welcome}
use Rattle.paxos_forms.specs.declared.welcome.WelcomeMember.{WelcomeMember}
use Rattle.paxos_forms.specs.declared.recovery.Give.{Give}
use Rattle.node_rules.specs.Lists.{In}
use Rattle.node_rules.specs.Chosen.{IsChosenLog}
use Rattle.node_rules.specs.World as nodes
use Rattle.order_laws.specs.Laws.{InEveryRun, OneLog, KeptAsInLog, Consecutive, WelcomesFollow, MadeBefore, AddedIn}
use Rattle.group_rules.specs.Events.{Did, Founds, Starts, Came, Made, Took, Skips, Done, Committed, Is, Gave, Answered, Begun, Changed, Replied, Called, AsksCommit, Ends, Enters, Restores, AskFails, Hears, Life, Setup, Entry, Cert}
use Rattle.group_rules.specs.Life.{state, is_recovering, executed, entered, has_give, entry_at, upto}
use Rattle.group_rules.specs.Recovery.{pending_ask, add_place, give_of}
use Rattle.group_rules.specs.Rows.{known}
use Rattle.group_rules.specs.Legal.{IsPast, last_slot, WasMade, SameEntry}
use Rattle.group_rules.specs.Steps.{group_of}
use Rattle.group_rules.specs.Taking.{takes_slots, entry_of}
use Rattle.group_rules.specs.World.{World, Past, Happening, Does, Writes, Halts, life_in, world_after}
use Rattle.group_rules.specs.OneList.{reading_of, value_at, before_slot, scan_entry, listed}
use Rattle.group_bridge.specs.Left.{IsRestored, IsSent, IsGiveSent, slot_left}
use Rattle.group_bridge.specs.Moves.{slots_in}
use Rattle.group_runs.specs.Runs.{as_sent, IsSetup, is_founder, AllDid, IsDone, HeardIn, WasGreeted, WasTold, WasSentAs, TookThen, OfSlots, OfNodes, EveryRun}
use Rattle.group_order.specs.OneLog.{LeftBy, GivenBy, SkippedAs, JoinedAs, IsReady, AgreesWith, Viewed, AgreesAt, Follows, NoOther, IsTaken, OneLogOf, EveryRunHasOne}
use Rattle.group_order.proofs.Steps.{SlotTaken, Steps}
use Rattle.group_order.proofs.Flips.{flip, flip_length, read_flip, take_flip, before_length}
use Rattle.group_order.proofs.Logs.{LogOf, the_log, shorter, left_all}
use Rattle.group_order.proofs.Shapes.{Shape, shapes, takes_after}
use Rattle.node_rules.proofs.Incs.{inc_same, inc_is}
use Rattle.group_order.proofs.Adds.{added_once}
use Rattle.group_order.proofs.Spans.{Last, Span, spans}
use Rattle.group_order.proofs.Nexts.{past_self, past_of, did_past, done_at, last_done, EnteredBy, entered_by, WelcomeAt, IsNext, all_next}
use Rattle.group_order.proofs.Joins.{TookAs, took_as, add_effect, added_here, kept_is}
use Rattle.group_order.proofs.Entries.{same_entry}
use Rattle.group_order.proofs.Begins.{took_at}
use Rattle.group_order.proofs.Agrees.{WelcomeFrom, GiveFrom, taker, all_agree}
use Rattle.group_order.proofs.Lookups.{asks_over, slots_below, slot_by, value_within, listed_entry}

-- ---- a kept value is no Noop

kept_what : (r : Reading) (v : Value) → is_kept r v ≡ true → v.what ≡ Noop → ⊥
kept_what r v h e = absurd (false≢true (subst (λ w. not (is_noop w) ≡ true) e (and_parts (not (is_noop v.what)) (is_next r.members v.id.origin v.id.number) h).0))

-- ---- all of a run

module _ (t : Setup) (good : IsSetup t) (one : InEveryRun OneLog) (kept : InEveryRun KeptAsInLog) (consecutive : InEveryRun Consecutive) (welcomes : InEveryRun WelcomesFollow) (before : InEveryRun MadeBefore) (w : World) (x : OfNodes t w) (log : List Value) (of : LogOf t x.nodes log) where
  abbrev Adds : Inc → ℕ → Type 0
  Adds i s = AddedIn (group_of t) x.nodes.cast i s

  same_slot : (i : Inc) (s r : ℕ) → Adds i s → Adds i r → s ≡ r
  same_slot i s r a b = added_once (group_of t) x.nodes.cast (λ xs ys p q h. shorter t good x.nodes x.run one kept xs ys p q h) i s r a b

  left : AllDid (OfSlots (LeftBy t log)) w.past
  left = left_all t x.nodes log of w.past x.took

  -- ---- Welcomes

  entered_at : (q : Past) (i : Inc) (u : Welcome) → IsPast (Does i (Enters u) ∷ q) w.past → EnteredBy t x.nodes q i u
  entered_at q i u k = entered_by t x.nodes q i u (did_past (IsDone t) w.past (Does i (Enters u) ∷ q) x.done k).1 (did_past (HeardIn x.nodes) w.past (Does i (Enters u) ∷ q) x.heard k).1 (done_at (IsDone t) w.past q i (Enters u) x.done k)

  welcome_at : (q : Past) (i : Inc) (u : Welcome) → IsPast (Does i (Enters u) ∷ q) w.past → Adds i u.slot
  welcome_at q i u k = subst (λ j. Adds j u.slot) e.to law
    where
      e : EnteredBy t x.nodes q i u
      e = entered_at q i u k

      law : Adds e.message.to u.slot
      law = (subst (λ v. WelcomesFollow (group_of t) v) (sym (x.run).1) (welcomes as_sent (λ ms m k. k) (group_of t) (x.run).0 good.horizon) e.message u e.on_wire e.wire).5

  joined : (q : Past) (i : Inc) (u : Welcome) → IsPast (Does i (Enters u) ∷ q) w.past → JoinedAs t log i u
  joined q i u k = record {
    value = g.add.value;
    joiner = g.joiner;
    there = subst (λ s. value_at log s ≡ Some g.add.value) same z.value;
    adds = g.adds;
    inc = sym g.to ∙ e.to;
    place = z.place;
    kept = ap (KeptAt z.place) (sym (add_effect t log (life_in g.before g.who) g.add g.joiner z g.adds g.effect)) ∙ z.kept ∙ ap (λ s. became (reading_of t (before_slot log s)) g.add.value) same;
  }
    where
      e : EnteredBy t x.nodes q i u
      e = entered_at q i u k

      g : WasGreeted t e.before e.message u
      g = e.greeted

      before_q : AllDid (OfSlots (LeftBy t log)) q
      before_q = (did_past (OfSlots (LeftBy t log)) w.past (Does i (Enters u) ∷ q) left k).1

      came : AllDid (OfSlots (LeftBy t log)) e.before
      came = (did_past (OfSlots (LeftBy t log)) q (Does i (Came (Hears e.message)) ∷ e.before) before_q e.earlier).1

      z : TookAs t log (life_in g.before g.who) g.add
      z = took_as t log g.before g.who g.add (done_at (OfSlots (LeftBy t log)) e.before g.before g.who (Took g.add) came g.took)

      same : g.add.slot ≡ u.slot
      same = same_slot i g.add.slot u.slot (subst (λ j. Adds j g.add.slot) (sym g.to ∙ e.to) (added_here t x.nodes.cast log of.chosen (life_in g.before g.who) g.add g.joiner z g.adds g.effect)) (welcome_at q i u k)

  -- ---- the next slots

  span : (i : Inc) → Span t x.nodes i (life_in w.past i)
  span = spans t good consecutive w x

  at_first : (i : Inc) (l : Life) → Last l → Shape t i l → WelcomeAt Adds l i → takes_slots l ≡ true → slots_in l ≡ [] → 0 < (span i).count → last_slot l ≡ (span i).first
  at_first i l last shape at ready none some = elim (cases_Bool (is_founder t i)) [
    | inl f ↦ last.none (shape.founder f).entered none ∙ sym ((span i).founder f some)
    | inr f ↦ (let r = takes_after t i l shape ready f in last.welcomed r.0 r.1 none ∙ same_slot i (r.0).slot (span i).first (at r.0 r.1) ((span i).joiner f some))
  ]

  next : AllDid (OfSlots IsNext) w.past
  next = all_next t x.nodes (λ i. slots_in (life_in w.past i)) (λ i. (span i).first) (λ i. (span i).count) (λ i. (span i).slots) Adds at_first w.past x.done welcome_at (λ i. ([], append-nil (slots_in (life_in w.past i))))

  -- ---- values made before

  -- the value of a slot is a Noop, or had been made when it was taken
  made_then : (p : Past) (i : Inc) (d : Did) (h : TookThen t p i d) → (((h.took).0).value.what ≡ Noop) ⊎ WasMade p ((h.took).0).value
  made_then p i d h = elim (subst (λ v. MadeBefore (group_of t) v) (sym (h.run).1) (before as_sent (λ ms m k. k) (group_of t) (h.run).0 good.horizon) (record { by = i; taken = (h.took).0 }) (h.took).1) [
    | inl q ↦ inl q
    | inr q ↦ inr (h.made ((h.took).0).value q)
  ]

  made_of : (p : Past) (i : Inc) (e : Entry) → TookThen t p i (Took e) → TookAs t log (life_in p i) e → WasMade p e.value
  made_of p i e h z = elim (made_then p i (Took e) h) [
    | inl q ↦ absurd (kept_what (reading_of t (before_slot log e.slot)) e.value is_kept_ (ap (λ v. v.what) value ∙ q))
    | inr m ↦ subst (λ v. WasMade p v) (sym value) m
  ]
    where
      is_kept_ : is_kept (reading_of t (before_slot log e.slot)) e.value ≡ true
      is_kept_ = (kept_is (reading_of t (before_slot log e.slot)) e.value z.place z.effect z.kept).0

      value : e.value ≡ ((h.took).0).value
      value = go ((h.took).0).kept (h.took).2
        where
          go : (k : Kept) → Took e ≡ slot_left t (life_in p i) ((h.took).0).slot ((h.took).0).value k → e.value ≡ ((h.took).0).value
          go IsSkipped q = absurd (cc q)
          go (KeptAt n b) q = let y : e ≡ entry_of t (life_in p i) ((h.took).0).slot n b ((h.took).0).value = cc in ap (λ d. d.value) y

  made_skipped : (p : Past) (i : Inc) (s : ℕ) (v : Value) → TookThen t p i (Skips s v) → is_noop v.what ≡ false → WasMade p v
  made_skipped p i s v h n = elim (made_then p i (Skips s v) h) [
    | inl q ↦ absurd (false≢true (sym n ∙ ap is_noop (ap (λ u. u.what) value ∙ q)))
    | inr m ↦ subst (λ u. WasMade p u) (sym value) m
  ]
    where
      value : v ≡ ((h.took).0).value
      value = go ((h.took).0).kept (h.took).2
        where
          go : (k : Kept) → Skips s v ≡ slot_left t (life_in p i) ((h.took).0).slot ((h.took).0).value k → v ≡ ((h.took).0).value
          go IsSkipped q = let y : Skips s v ≡ Skips ((h.took).0).slot ((h.took).0).value = q in cc
          go (KeptAt n b) q = absurd (cc q)

  skipped_is : (p : Past) (i : Inc) (s : ℕ) (v : Value) → LeftBy t log p i (Skips s v) → s ≡ suc (last_slot (life_in p i)) → TookThen t p i (Skips s v) → SkippedAs t log p i s v
  skipped_is p i s v h n then = go ((h.0).kept) refl h.1
    where
      go : (k : Kept) → (h.0).kept ≡ k → Skips s v ≡ slot_left t (life_in p i) (h.0).slot (h.0).value (h.0).kept → SkippedAs t log p i s v
      go (KeptAt m b) q e = let z : Skips s v ≡ slot_left t (life_in p i) (h.0).slot (h.0).value (KeptAt m b) = e ∙ ap (λ k. slot_left t (life_in p i) (h.0).slot (h.0).value k) q in absurd (cc)
      go IsSkipped q e =
          let z : Skips s v ≡ Skips (h.0).slot (h.0).value = e ∙ ap (λ k. slot_left t (life_in p i) (h.0).slot (h.0).value k) q in
          let a : s ≡ (h.0).slot = cc in
          let b : v ≡ (h.0).value = cc in
          record {
            value = ap (λ y. value_at log y) a ∙ ((h.2).value ∙ ap Some (sym b));
            next = n;
            skipped = ap (λ y. became (reading_of t (before_slot log y)) v) a ∙ (ap (λ y. became (reading_of t (before_slot log (h.0).slot)) y) b ∙ (sym (h.2).kept ∙ q));
            made = made_skipped p i s v then;
          }

  follow : (p : Past) (i : Inc) (d : Did) → IsPast (Does i d ∷ p) w.past → OfSlots (LeftBy t log) p i d → OfSlots IsNext p i d → OfSlots (TookThen t) p i d → Steps t log p i d
  follow p i (Took e) k a n m = let z = took_as t log p i e a in record { value = z.value; next = n; made = made_of p i e m z; place = z.place; effect = z.effect; kept = z.kept; is_it = z.is_it }
  follow p i (Skips s v) k a n m = skipped_is p i s v a n m
  follow p i (Enters u) k a n m = joined p i u k
  follow p i Founds k a n m = tt
  follow p i (Starts x) k a n m = tt
  follow p i (Came x) k a n m = tt
  follow p i (Made v y) k a n m = tt
  follow p i (Done y) k a n m = tt
  follow p i (Committed g) k a n m = tt
  follow p i (Is s c) k a n m = tt
  follow p i (Gave y z) k a n m = tt
  follow p i (Answered s x) k a n m = tt
  follow p i (Begun s x y) k a n m = tt
  follow p i (Changed s c) k a n m = tt
  follow p i (Replied r) k a n m = tt
  follow p i (Called s v w) k a n m = tt
  follow p i (AsksCommit s j) k a n m = tt
  follow p i (Ends s) k a n m = tt
  follow p i (Restores g cs) k a n m = tt
  follow p i AskFails k a n m = tt

  follow_all : (p : Past) → ((q : Past) → IsPast q p → IsPast q w.past) → AllDid (OfSlots (LeftBy t log)) p → AllDid (OfSlots IsNext) p → AllDid (OfSlots (TookThen t)) p → AllDid (Steps t log) p
  follow_all [] f a n m = tt
  follow_all (Writes y z ∷ p) f a n m = follow_all p (λ q k. f q (inr k)) a n m
  follow_all (Halts y ∷ p) f a n m = follow_all p (λ q k. f q (inr k)) a n m
  follow_all (Does i d ∷ p) f a n m = (follow p i d (f (Does i d ∷ p) (inl refl)) a.0 n.0 m.0, follow_all p (λ q k. f q (inr k)) a.1 n.1 m.1)

  steps : AllDid (Steps t log) w.past
  steps = follow_all w.past (λ q k. k) left next x.then

  -- ---- what came to joiners

  welcome_from : (q : Past) (i : Inc) (u : Welcome) → IsPast (Does i (Enters u) ∷ q) w.past → WelcomeFrom t log q u
  welcome_from q i u k = record { who = g.who; before = g.before; add = g.add; earlier = earlier; node = g.node; turns = g.turns; shows = g.welcome; slot = same; place = place; members = members }
    where
      e : EnteredBy t x.nodes q i u
      e = entered_at q i u k

      g : WasGreeted t e.before e.message u
      g = e.greeted

      earlier : IsPast (Does g.who (Took g.add) ∷ g.before) q
      earlier = past_of (Does i (Came (Hears e.message)) ∷ e.before) (Does g.who (Took g.add) ∷ g.before) q e.earlier (inr g.took)

      left_q : AllDid (OfSlots (LeftBy t log)) q
      left_q = (did_past (OfSlots (LeftBy t log)) w.past (Does i (Enters u) ∷ q) left k).1

      z : TookAs t log (life_in g.before g.who) g.add
      z = took_as t log g.before g.who g.add (done_at (OfSlots (LeftBy t log)) q g.before g.who (Took g.add) left_q earlier)

      same : g.add.slot ≡ u.slot
      same = same_slot i g.add.slot u.slot (subst (λ j. Adds j g.add.slot) (sym g.to ∙ e.to) (added_here t x.nodes.cast log of.chosen (life_in g.before g.who) g.add g.joiner z g.adds g.effect)) (welcome_at q i u k)

      law : (xs : List Value) × IsChosenLog (group_of t) x.nodes.cast xs × (u.slot ≡ length xs) × (u.place ≡ (after (group_of t) xs).place) × (map {A = WelcomeMember} (λ y. record { inc = y.joiner.inc; last = y.last }) u.members ≡ (after (group_of t) xs).members) × AddedIn (group_of t) x.nodes.cast e.message.to u.slot
      law = subst (λ v. WelcomesFollow (group_of t) v) (sym (x.run).1) (welcomes as_sent (λ ms m k. k) (group_of t) (x.run).0 good.horizon) e.message u e.on_wire e.wire

      -- the log that it tells of is the beginning of this one
      front : law.0 ≡ take u.slot (flip log)
      front = let n = flip_length log in shorter t good x.nodes x.run one kept (flip log) law.0 of.chosen law.1 (omega (arith, law.2, same, z.slot, z.within, n)) ∙ ap (λ s. take s (flip log)) (sym law.2)

      reading : after (group_of t) law.0 ≡ reading_of t (before_slot log (suc u.slot))
      reading = ap (λ l. after (group_of t) l) (front ∙ sym (take_flip log u.slot)) ∙ read_flip t (before_slot log (suc u.slot))

      place : u.place ≡ (reading_of t (before_slot log (suc u.slot))).place
      place = law.3 ∙ ap (λ r. r.place) reading

      members : map {A = WelcomeMember} (λ y. record { inc = y.joiner.inc; last = y.last }) u.members ≡ (reading_of t (before_slot log (suc u.slot))).members
      members = law.4 ∙ ap (λ r. r.members) reading

  -- a Give tells what the history of its sender was
  given_by : (q : Past) (i : Inc) (g : Give) (cs : List Cert) → IsPast (Does i (Restores g cs) ∷ q) w.past → GivenBy t q i g cs
  given_by q i g cs k = record { giver = r.message.from; sent = told.0; sent_before = sent_before; add = sent.add; before = at.1.0; earlier = at.1.1; asked = ask.0; asked_before = asked_before; asking = subst (λ y. is_recovering (state (life_in ask.0 y)) ≡ true) asker asked_as.0; give = give; certs = r.certs; no_extra = no_extra; welcome = entered_here.0; entered = entered_here.1; place = place; ungiven = ungiven }
    where
      done_q : AllDid (IsDone t) q
      done_q = (did_past (IsDone t) w.past (Does i (Restores g cs) ∷ q) x.done k).1

      r : IsRestored t (life_in q i) g cs
      r = (done_at (IsDone t) w.past q i (Restores g cs) x.done k).1.1

      at0 : (q1 : Past) × IsPast (Does i (Gave g.place r.count) ∷ q1) q × (life_in q1 i ≡ Came (Hears r.message) ∷ r.past)
      at0 = last_done q i (Gave g.place r.count) (Came (Hears r.message) ∷ r.past) r.heard

      at1 : (q2 : Past) × IsPast (Does i (Came (Hears r.message)) ∷ q2) at0.0 × (life_in q2 i ≡ r.past)
      at1 = last_done at0.0 i (Came (Hears r.message)) r.past at0.2

      came_at : IsPast (Does i (Came (Hears r.message)) ∷ at1.0) q
      came_at = past_of (Does i (Gave g.place r.count) ∷ at0.0) (Does i (Came (Hears r.message)) ∷ at1.0) q at0.1 (inr at1.1)

      came : IsDone t at1.0 i (Came (Hears r.message))
      came = done_at (IsDone t) q at1.0 i (Came (Hears r.message)) done_q came_at

      told : WasTold t at1.0 r.message
      told = subst (λ y. WasSentAs t at1.0 r.message y) r.wire came.2

      sent : IsGiveSent t (life_in told.0 r.message.from) r.message.to g
      sent = subst (λ y. IsSent t (life_in told.0 r.message.from) r.message.to y) r.wire told.2

      at : (sent.add.place ≡ sent.place) × ((q3 : Past) × IsPast (Does r.message.from (Took sent.add) ∷ q3) told.0 × (upto (life_in told.0 r.message.from) sent.place ≡ Took sent.add ∷ life_in q3 r.message.from))
      at = took_at told.0 r.message.from sent.place sent.add sent.there

      sent_before : IsPast told.0 q
      sent_before = past_of at1.0 told.0 q (past_of (Does i (Came (Hears r.message)) ∷ at1.0) at1.0 q came_at (inr (past_self at1.0))) told.1

      up_to : upto (life_in told.0 r.message.from) sent.add.place ≡ Took sent.add ∷ life_in at.1.0 r.message.from
      up_to = ap (λ n. upto (life_in told.0 r.message.from) n) at.0 ∙ at.1.2

      -- the Ask that the giver heard
      at2 : (q4 : Past) × IsPast (Does r.message.from (Came (Hears sent.message)) ∷ q4) told.0 × (life_in q4 r.message.from ≡ sent.past)
      at2 = last_done told.0 r.message.from (Came (Hears sent.message)) sent.past sent.heard

      ask_came : IsDone t at2.0 r.message.from (Came (Hears sent.message))
      ask_came = done_at (IsDone t) q at2.0 r.message.from (Came (Hears sent.message)) done_q (past_of told.0 (Does r.message.from (Came (Hears sent.message)) ∷ at2.0) q sent_before at2.1)

      ask : WasTold t at2.0 sent.message
      ask = subst (λ y. WasSentAs t at2.0 sent.message y) sent.asked ask_came.2

      asked_as : IsSent t (life_in ask.0 sent.message.from) sent.message.to (Asks (record { place = sent.place; executed = sent.set }))
      asked_as = subst (λ y. IsSent t (life_in ask.0 sent.message.from) sent.message.to y) sent.asked ask.2

      asked_before : IsPast ask.0 q
      asked_before = past_of at2.0 ask.0 q (past_of (Does r.message.from (Came (Hears sent.message)) ∷ at2.0) at2.0 q (past_of told.0 (Does r.message.from (Came (Hears sent.message)) ∷ at2.0) q sent_before at2.1) (inr (past_self at2.0))) ask.1

      asker : sent.message.from ≡ i
      asker = sym sent.asker ∙ came.1

      set : sent.set ≡ executed (life_in ask.0 i)
      set = ap (λ y. y.executed) asked_as.2 ∙ ap (λ y. executed (life_in ask.0 y)) asker

      give : g ≡ give_of t (Took sent.add ∷ life_in at.1.0 r.message.from) (filter (λ c. nat_le c.place sent.add.place) (known (life_in told.0 r.message.from))) sent.add.place (executed (life_in ask.0 i))
      give = sent.give ∙ (λ n. give_of t (up_to n) (filter (λ c. nat_le c.place sent.add.place) (known (life_in told.0 r.message.from))) sent.add.place (set n))

      shape : Shape t i (life_in q i)
      shape = shapes t q done_q i

      recovering : is_recovering (state (life_in q i)) ≡ true
      recovering = subst (λ l. is_recovering (state l) ≡ true) (sym r.heard) r.recovering

      joiner : is_founder t i ≡ false
      joiner = elim (cases_Bool (is_founder t i)) [ inl f ↦ absurd (false≢true (sym (shape.founder f).joined ∙ recovering)) | inr f ↦ f ]

      entered_here : (u : Welcome) × (entered (life_in q i) ≡ Some u)
      entered_here = go (entered (life_in q i)) refl
        where
          go : (o : Option Welcome) → entered (life_in q i) ≡ o → (u : Welcome) × (entered (life_in q i) ≡ Some u)
          go (Some u) e = (u, e)
          go None e = absurd (false≢true (sym ((shape.joiner joiner).unentered e).joined ∙ recovering))

      place : sent.add.place ≡ (entered_here.0).place
      place =
          let here : entered r.past ≡ Some entered_here.0 = sym (ap entered r.heard) ∙ entered_here.1 in
          ap (λ y. y.place) (sym sent.give) ∙ (eqb-true g.place (add_place (entered r.past)) r.place ∙ ap add_place here)

      no_extra : minus (executed (life_in q i)) g.certified ≡ []
      no_extra = ap (λ l. minus (executed l) g.certified) r.heard ∙ r.no_extra

      ungiven : has_give (life_in q i) ≡ false
      ungiven = elim (cases_Bool (has_give (life_in q i))) [
        | inl y ↦ (let none : pending_ask r.past ≡ None = sym (ap pending_ask r.heard) ∙ asks_over t q done_q i y in absurd (false≢true (sym (ap (λ o. is_inc o r.message.from) none) ∙ r.donor)))
        | inr y ↦ y
      ]

  give_from : (q : Past) (i : Inc) (g : Give) (cs : List Cert) → IsPast (Does i (Restores g cs) ∷ q) w.past → GiveFrom t q i g
  give_from q i g cs k =
      let x = given_by q i g cs k in
      record { giver = x.giver; before = x.before; add = x.add; earlier = past_of x.sent (Does x.giver (Took x.add) ∷ x.before) q x.sent_before x.earlier; parts = ap (λ y. y.parts) x.give; welcome = x.welcome; entered = x.entered; place = x.place; ungiven = x.ungiven }

  agree : (q : Past) → IsPast q w.past → (i : Inc) → Viewed t i (life_in q i) → AgreesAt t log q i
  agree = all_agree t good log w.past x.done steps welcome_from give_from w.past (λ q k. k)

  -- ---- the entries of the list

  listed_at : (p : Past) (i : Inc) (e : Entry) → IsPast (Does i (Took e) ∷ p) w.past → (z : SlotTaken t log p i e) → (y : Entry) × (entry_at (listed t log) e.place ≡ Some y) × SameEntry y e
  listed_at p i e k z = (scan_entry t (listed t (before_slot log e.slot)) e.slot z.place z.effect e.value, entry, same)
    where
      done_p : IsDone t p i (Took e)
      done_p = done_at (IsDone t) w.past p i (Took e) x.done k

      v : Viewed t i (life_in p i) × IsReady t i (life_in p i)
      v = taker t good log w.past x.done steps welcome_from give_from p i (Took e) k done_p.1.1 (done_p.0).begun

      p_past : IsPast p w.past
      p_past = past_of (Does i (Took e) ∷ p) p w.past k (inr (past_self p))

      a : AgreesWith t i (life_in p i) (before_slot log e.slot)
      a = subst (λ s. AgreesWith t i (life_in p i) (before_slot log s)) (sym z.next) (agree p p_past i v.0)

      number : e.slot ≡ suc (length (before_slot log e.slot))
      number =
          let b = value_within log e.slot e.value z.value in
          let m : length (before_slot log (suc (last_slot (life_in p i)))) ≡ last_slot (life_in p i) = before_length log (last_slot (life_in p i)) (omega (arith, b.1, z.next)) in
          let n : length (before_slot log e.slot) ≡ last_slot (life_in p i) = ap (λ s. length (before_slot log s)) z.next ∙ m in
          omega (arith, n, z.next)

      entry : entry_at (listed t log) e.place ≡ Some (scan_entry t (listed t (before_slot log e.slot)) e.slot z.place z.effect e.value)
      entry = ap (λ n. entry_at (listed t log) n) (ap (λ y. y.place) z.is_it) ∙ listed_entry t log e.slot e.value z.place z.effect z.value z.kept

      same : SameEntry (scan_entry t (listed t (before_slot log e.slot)) e.slot z.place z.effect e.value) e
      same = subst (λ y. SameEntry (scan_entry t (listed t (before_slot log e.slot)) e.slot z.place z.effect e.value) y) (sym z.is_it)
          (subst (λ s. SameEntry (scan_entry t (listed t (before_slot log e.slot)) s z.place z.effect e.value) (entry_of t (life_in p i) e.slot z.place z.effect e.value)) (sym number)
          (same_entry t i (life_in p i) (before_slot log e.slot) e.value z.place z.effect z.kept a v.1 e.slot number))

  follow_so : (p : Past) (i : Inc) (d : Did) → IsPast (Does i d ∷ p) w.past → Steps t log p i d → Follows t log p i d
  follow_so p i (Took e) k z = record { value = z.value; next = z.next; made = z.made; place = z.place; effect = z.effect; kept = z.kept; is_it = z.is_it; listed = listed_at p i e k z }
  follow_so p i (Skips s u) k z = z
  follow_so p i (Enters u) k z = z
  follow_so p i Founds k a = tt
  follow_so p i (Starts y) k a = tt
  follow_so p i (Came y) k a = tt
  follow_so p i (Made v h) k a = tt
  follow_so p i (Done n) k a = tt
  follow_so p i (Committed g) k a = tt
  follow_so p i (Is s c) k a = tt
  follow_so p i (Gave n m) k a = tt
  follow_so p i (Answered s y) k a = tt
  follow_so p i (Begun s y z) k a = tt
  follow_so p i (Changed s c) k a = tt
  follow_so p i (Replied r) k a = tt
  follow_so p i (Called s v y) k a = tt
  follow_so p i (AsksCommit s j) k a = tt
  follow_so p i (Ends s) k a = tt
  follow_so p i (Restores g cs) k a = tt
  follow_so p i AskFails k a = tt

  follows_all : (p : Past) → ((q : Past) → IsPast q p → IsPast q w.past) → AllDid (Steps t log) p → AllDid (Follows t log) p
  follows_all [] f a = tt
  follows_all (Writes y z ∷ p) f a = follows_all p (λ q k. f q (inr k)) a
  follows_all (Halts y ∷ p) f a = follows_all p (λ q k. f q (inr k)) a
  follows_all (Does i d ∷ p) f a = (follow_so p i d (f (Does i d ∷ p) (inl refl)) a.0, follows_all p (λ q k. f q (inr k)) a.1)

  -- ---- every slot was taken

  later_taken : (h : Happening) (s : ℕ) (p : Past) → IsTaken s p → IsTaken s (h ∷ p)
  later_taken h s p k = (k.0, k.1, elim k.2 [ inl y ↦ inl (y.0, y.1, inr y.2) | inr y ↦ inr (y.0, inr y.1) ])

  wider_taken : (s : ℕ) (q p : Past) → IsPast q p → IsTaken s q → IsTaken s p
  wider_taken s q p h k = (k.0, k.1, elim k.2 [ inl y ↦ inl (y.0, y.1, past_of q _ p h y.2) | inr y ↦ inr (y.0, past_of q _ p h y.1) ])

  -- all slots up to the last one of an incarnation
  abbrev AllTaken : Past → Type 0
  AllTaken p = (i : Inc) (s : ℕ) → 0 < s → s ≤ last_slot (life_in p i) → IsTaken s p

  next_taken : (s n : ℕ) → s ≤ suc n → (s ≡ suc n) ⊎ (s ≤ n)
  next_taken s n h = elim (cases_Bool (leb s n)) [ inl q ↦ inr (leb-true s n q) | inr q ↦ (let z = leb-false s n q in inl (omega (arith, h, z))) ]

  one_taken : (p : Past) (j : Inc) (d : Did) → IsPast (Does j d ∷ p) w.past → Steps t log p j d → ((q : Past) → IsPast q p → AllTaken q) → (s : ℕ) → 0 < s → s ≤ last_slot (d ∷ life_in p j) → IsTaken s (Does j d ∷ p)
  one_taken p j (Took e) k z f s pos le = elim (next_taken s (last_slot (life_in p j)) (omega (arith, le, z.next))) [
    | inl q ↦ (j, p, inl (e, z.next ∙ sym q, inl refl))
    | inr q ↦ later_taken (Does j (Took e)) s p (f p (past_self p) j s pos q)
  ]
  one_taken p j (Skips n v) k z f s pos le = elim (next_taken s (last_slot (life_in p j)) (omega (arith, le, z.next))) [
    | inl q ↦ (j, p, inr (v, inl (ap (λ y. Does j (Skips y v) ∷ p) (q ∙ sym z.next))))
    | inr q ↦ later_taken (Does j (Skips n v)) s p (f p (past_self p) j s pos q)
  ]
  one_taken p j (Enters u) k z f s pos le =
      let g = welcome_from p j u k in
      later_taken (Does j (Enters u)) s p (wider_taken s (Does g.who (Took g.add) ∷ g.before) p g.earlier (f (Does g.who (Took g.add) ∷ g.before) g.earlier g.who s pos (subst (λ l. s ≤ last_slot l) (sym (last_here g.who (Took g.add) g.before)) (omega (arith, le, g.slot)))))
    where
      last_here : (i : Inc) (c : Did) (q : Past) → life_in (Does i c ∷ q) i ≡ c ∷ life_in q i
      last_here i c q = ap (λ b. elim b [ true ↦ c ∷ life_in q i | false ↦ life_in q i ]) (inc_same i)
  one_taken p j Founds k z f s pos le = later_taken (Does j Founds) s p (f p (past_self p) j s pos le)
  one_taken p j (Starts y) k z f s pos le = later_taken (Does j (Starts y)) s p (f p (past_self p) j s pos le)
  one_taken p j (Came y) k z f s pos le = later_taken (Does j (Came y)) s p (f p (past_self p) j s pos le)
  one_taken p j (Made v h) k z f s pos le = later_taken (Does j (Made v h)) s p (f p (past_self p) j s pos le)
  one_taken p j (Done n) k z f s pos le = later_taken (Does j (Done n)) s p (f p (past_self p) j s pos le)
  one_taken p j (Committed g) k z f s pos le = later_taken (Does j (Committed g)) s p (f p (past_self p) j s pos le)
  one_taken p j (Is y c) k z f s pos le = later_taken (Does j (Is y c)) s p (f p (past_self p) j s pos le)
  one_taken p j (Gave n m) k z f s pos le = later_taken (Does j (Gave n m)) s p (f p (past_self p) j s pos le)
  one_taken p j (Answered y c) k z f s pos le = later_taken (Does j (Answered y c)) s p (f p (past_self p) j s pos le)
  one_taken p j (Begun c y a) k z f s pos le = later_taken (Does j (Begun c y a)) s p (f p (past_self p) j s pos le)
  one_taken p j (Changed y c) k z f s pos le = later_taken (Does j (Changed y c)) s p (f p (past_self p) j s pos le)
  one_taken p j (Replied r) k z f s pos le = later_taken (Does j (Replied r)) s p (f p (past_self p) j s pos le)
  one_taken p j (Called c v y) k z f s pos le = later_taken (Does j (Called c v y)) s p (f p (past_self p) j s pos le)
  one_taken p j (AsksCommit c y) k z f s pos le = later_taken (Does j (AsksCommit c y)) s p (f p (past_self p) j s pos le)
  one_taken p j (Ends y) k z f s pos le = later_taken (Does j (Ends y)) s p (f p (past_self p) j s pos le)
  one_taken p j (Restores g cs) k z f s pos le = later_taken (Does j (Restores g cs)) s p (f p (past_self p) j s pos le)
  one_taken p j AskFails k z f s pos le = later_taken (Does j AskFails) s p (f p (past_self p) j s pos le)

  taken_all : (p : Past) → ((q : Past) → IsPast q p → IsPast q w.past) → AllDid (Steps t log) p → (q : Past) → IsPast q p → AllTaken q
  taken_all [] wider a q k = subst (λ y. AllTaken y) (sym k) (λ i s pos le. absurd (omega (arith, pos, le)))
  taken_all (Writes n y ∷ p) wider a q (inl e) = subst (λ y. AllTaken y) (sym e) (λ i s pos le. later_taken (Writes n y) s p (taken_all p (λ r z. wider r (inr z)) a p (past_self p) i s pos le))
  taken_all (Halts n ∷ p) wider a q (inl e) = subst (λ y. AllTaken y) (sym e) (λ i s pos le. later_taken (Halts n) s p (taken_all p (λ r z. wider r (inr z)) a p (past_self p) i s pos le))
  taken_all (Does j d ∷ p) wider a q (inl e) = subst (λ y. AllTaken y) (sym e) (go (λ r z. taken_all p (λ r z. wider r (inr z)) a.1 r z))
    where
      go : ((r : Past) → IsPast r p → AllTaken r) → (k : Inc) (s : ℕ) → 0 < s → s ≤ last_slot (life_in (Does j d ∷ p) k) → IsTaken s (Does j d ∷ p)
      go f k s pos le = by (inc_eq j k) refl le
        where
          by : (y : Bool) → inc_eq j k ≡ y → s ≤ last_slot (elim y [ true ↦ d ∷ life_in p k | false ↦ life_in p k ]) → IsTaken s (Does j d ∷ p)
          by true m z = one_taken p j d (wider (Does j d ∷ p) (inl refl)) a.0 f s pos (subst (λ i. s ≤ last_slot (d ∷ life_in p i)) (sym (inc_is j k m)) z)
          by false m z = later_taken (Does j d) s p (f p (past_self p) k s pos z)
  taken_all (Writes n y ∷ p) wider a q (inr k) = taken_all p (λ r z. wider r (inr z)) a q k
  taken_all (Halts n ∷ p) wider a q (inr k) = taken_all p (λ r z. wider r (inr z)) a q k
  taken_all (Does j d ∷ p) wider a q (inr k) = taken_all p (λ r z. wider r (inr z)) a.1 q k

  no_other : NoOther log w.past
  no_other s v h = elim taken.2 [ inl y ↦ (taken.0, taken.1, inl (y.0, y.1, y.2)) | inr y ↦ (taken.0, taken.1, inr (subst (λ u. IsPast (Does taken.0 (Skips s u) ∷ taken.1) w.past) (same_value y.0 y.1) y.1)) ]
    where
      within : (0 < s) × (s ≤ length log)
      within = value_within log s v h

      last : (y : nodes.Took) × In y x.nodes.took × (y.taken.slot ≡ length log)
      last = of.no_longer (omega (arith, within.0, within.1))

      up : length log ≤ last_slot (life_in w.past (last.0).by)
      up = at_least (slots_below t w.past x.done next (last.0).by (last.0).taken.slot (subst (λ l. In (last.0).taken.slot l) (x.slots (last.0).by) (slot_by (last.0) x.nodes.took last.1)))
        where
          at_least : (last.0).taken.slot ≤ last_slot (life_in w.past (last.0).by) → length log ≤ last_slot (life_in w.past (last.0).by)
          at_least z = omega (arith, z, last.2)

      taken : IsTaken s w.past
      taken = taken_all w.past (λ q k. k) steps w.past (past_self w.past) (last.0).by s within.0 (omega (arith, within.1, up))

      same_value : (u : Value) → IsPast (Does taken.0 (Skips s u) ∷ taken.1) w.past → u ≡ v
      same_value u k = let z = done_at (Steps t log) w.past taken.1 taken.0 (Skips s u) steps k in let e : Some u ≡ Some v = sym z.value ∙ h in cc

  pub one_log : OneLogOf t w.past
  one_log = record {
    parts = record { log = log; follows = follows_all w.past (λ q k. k) steps; reached = taken_all w.past (λ q k. k) steps; given = given_by; agrees = agree };
    no_other = no_other;
  }

pub every_run_has_one : EveryRun → InEveryRun OneLog → InEveryRun KeptAsInLog → InEveryRun Consecutive → InEveryRun WelcomesFollow → InEveryRun MadeBefore → EveryRunHasOne
every_run_has_one runs one kept consecutive welcomes before ms t q good =
    let x : OfNodes t (world_after ms) = runs ms t q good in
    let l = the_log t good x.nodes x.run one kept in
    one_log t good one kept consecutive welcomes before (world_after ms) x l.0 l.1
