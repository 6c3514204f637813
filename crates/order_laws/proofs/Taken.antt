-- Each incarnation takes consecutive slots of the one log.
use Rattle.std.proofs.Common.{append_assoc, ◌≡◌, ℕ, zero, suc, ◌+◌, ◌-◌, ◌<◌, ◌≤◌, Bool, true, false, not, inl, inr, ◌&&◌, Option, Some, None, List, [], ◌∷◌, ◌++◌, refl, sym, ap, ◌∙◌, subst, arith}
use Rattle.std.specs.Prelude.{slice_get, is_some}
use Rattle.std.proofs.lemmas.Bool.{false≢true, cases_Bool, and_parts, not-true, cond_both}
use Rattle.gr_ids.specs.Names.{has_inc, inc_eq}
use Rattle.node_rules.specs.Chosen.{Cast}
use Rattle.node_rules.specs.Learner.{next_entry}
use Rattle.node_rules.specs.Learning.{hear_learn, hear_accepted, hear_alive}
use Rattle.node_rules.specs.Lists.{In}
use Rattle.node_rules.specs.Node.{Node, Effect, quiet, also, first_ballot, joiner, founder}
use Rattle.node_rules.specs.Proposing.{hear_promise, hear_offer, own_value, propose_all, campaign}
use Rattle.node_rules.specs.Slots.{Entry}
use Rattle.node_rules.specs.Step.{hear, node_step}
use Rattle.node_rules.specs.Taking.{forgets, take_entry, take_next, take}
use Rattle.node_rules.specs.Ticks.{tick}
use Rattle.node_rules.specs.Voting.{hear_prepare, hear_accept}
use Rattle.node_rules.specs.Welcoming.{is_in_order, is_for, welcomed, hear_welcome}
use Rattle.node_rules.specs.World.{World, Took, Act, Owns, Campaigns, Ticks, Proposes, Takes, Event, Hears, Does, Starts, Ends, does, does_all, all_made_by, put_node, took_by, casts_by, acted, makes, act_on, acts, hears, starts, happens, start, run_from, run, Arranges}
use Rattle.order_laws.specs.Laws.{InEveryRun, slots_by, count_up, AddedIn, Consecutive}
use Rattle.order_laws.specs.Names.{Taken, PaxosEvent, Heard, Own, Campaign, Tick, Propose, Inc, Joiner, Welcome, Wire, Prepare, Promise, Accept, Accepted, Learn, Offer, Greet, Ask, Give, Alive, Gone, Message}
use Rattle.slot_values.specs.Log.{Group, Turns, became}
use Rattle.node_rules.proofs.Incs.{inc_same}
use Rattle.order_laws.proofs.Lists.{in_left, at_slot-slot}
use Rattle.order_laws.proofs.Agree.{Decided, log_chosen}
use Rattle.order_laws.proofs.Inv.{Nodes, Begun, WireOk, Inv, sound_of, put_cases, put_same, put_twice}
use Rattle.order_laws.proofs.Votes.{begun_grows}
use Rattle.order_laws.proofs.Acts.{append_nil, map_append, InvAfter, safe_quiet}
use Rattle.order_laws.proofs.Logs.{log_more}
use Rattle.order_laws.proofs.Takes.{is_none, next-entry}
use Rattle.order_laws.proofs.Steps.{safe_step, safe_does}
use Rattle.order_laws.proofs.Runs.{Good, good, good_event, good_start, get-in}
use Rattle.order_laws.proofs.Keeps.{Keeps, keeps_prepare, keeps_accept, keeps_learn, keeps_accepted, keeps_all, keeps_promise, keeps_own, keeps_offer, keeps_campaign, keeps_alive, keeps_tick, keeps_forgets}

-- ---- the slots taken

-- nothing before the first slot is handed out, and then the slots after s; `B` says that an incarnation was added in slot s
record Span (B : Inc → ℕ → Type 0) (g : Group) (i : Inc) (ts : List Took) (k : ℕ) : Type 0 where
  none : k ≡ 0 → slots_by i ts ≡ []
  some : 0 < k → (s : ℕ) × (s < k) × (slots_by i ts ≡ count_up (s + 1) (k - (s + 1))) × (has_inc g.founders i ≡ true → s ≡ 0) × (has_inc g.founders i ≡ false → B i s)

record TookOk (B : Inc → ℕ → Type 0) (g : Group) (at : Nodes) (ts : List Took) : Type 0 where
  absent : (i : Inc) → at i ≡ None → slots_by i ts ≡ []
  there : (i : Inc) → has_inc g.founders i ≡ true → (n : Node) × (at i ≡ Some n)
  span : (i : Inc) (n : Node) → at i ≡ Some n → Span B g i ts n.learner.slot
  founders : (i : Inc) (n : Node) → at i ≡ Some n → has_inc g.founders i ≡ true → 0 < n.learner.slot

slots_append : (i : Inc) (xs ys : List Took) → slots_by i (xs ++ ys) ≡ slots_by i xs ++ slots_by i ys
slots_append i [] ys = refl
slots_append i (x ∷ xs) ys = go (inc_eq x.by i) refl (slots_append i xs ys)
  where
    go : (u : Bool) → inc_eq x.by i ≡ u → slots_by i (xs ++ ys) ≡ slots_by i xs ++ slots_by i ys → slots_by i (x ∷ xs ++ ys) ≡ slots_by i (x ∷ xs) ++ slots_by i ys
    go true e r = rw e (ap (λ l. x.taken.slot ∷ l) r)
    go false e r = rw e r

-- what another took isn't this one's
slots_other : (i j : Inc) (es : List Taken) → inc_eq i j ≡ false → slots_by j (took_by i es) ≡ []
slots_other i j [] e = refl
slots_other i j (x ∷ es) e = rw e (slots_other i j es e)

slots_own : (i : Inc) (e : Taken) → slots_by i (took_by i (e ∷ [])) ≡ e.slot ∷ []
slots_own i e = rw (inc_same i)

count_push : (s k : ℕ) → count_up s k ++ (s + k) ∷ [] ≡ count_up s (suc k)
count_push s zero = ap (λ z. z ∷ []) (omega arith)
count_push s (suc k) = let e : s + suc k ≡ (s + 1) + k = omega arith in rw e (ap (λ l. s ∷ l) (count_push (s + 1) k))

abbrev TookAfter : (Inc → ℕ → Type 0) → Group → Nodes → List Took → Inc → Effect → Type 0
TookAfter B g at ts i e = TookOk B g (put_node at i e.node) (ts ++ took_by i e.took)

module _ (B : Inc → ℕ → Type 0) (g : Group) where
  -- one incarnation's node and slots change
  took_set : (at : Nodes) (ts : List Took) (i : Inc) (n : Node) (e : Effect) → TookOk B g at ts → at i ≡ Some n → Span B g i (ts ++ took_by i e.took) e.node.learner.slot → (has_inc g.founders i ≡ true → 0 < e.node.learner.slot) → TookAfter B g at ts i e
  took_set at ts i n e ok here s f = record {
    absent = λ j h. elim (cases_Bool (inc_eq i j)) [
      | inl q ↦ let k : Some e.node ≡ None = rw q at h in absurd (cc)
      | inr q ↦ other j q ∙ ok.absent j (rw q at h)
    ];
    there = λ j h. elim (cases_Bool (inc_eq i j)) [
      | inl q ↦ (e.node, rw q refl)
      | inr q ↦ let y = ok.there j h in (y.0, rw q y.1)
    ];
    span = λ j y h. elim (put_cases at i e.node j y h) [
      | inl k ↦ subst (λ z. Span B g z (ts ++ took_by i e.took) y.learner.slot) k.0 (subst (λ z. Span B g i (ts ++ took_by i e.took) z.learner.slot) k.1 s)
      | inr k ↦ let o = ok.span j y k.1 in
          record { none = λ z. other j k.0 ∙ o.none z; some = λ z. let r = o.some z in (r.0, r.1, other j k.0 ∙ r.2, r.3, r.4) }
    ];
    founders = λ j y h q. elim (put_cases at i e.node j y h) [
      | inl k ↦ subst (λ z. 0 < z.learner.slot) k.1 (f (subst (λ z. has_inc g.founders z ≡ true) (sym k.0) q))
      | inr k ↦ ok.founders j y k.1 q
    ];
  }
    where
      other : (j : Inc) → inc_eq i j ≡ false → slots_by j (ts ++ took_by i e.took) ≡ slots_by j ts
      other j q = slots_append j ts (took_by i e.took) ∙ ap (λ z. slots_by j ts ++ z) (slots_other i j e.took q) ∙ append_nil (slots_by j ts)

  -- nothing taken
  took_keeps : (at : Nodes) (ts : List Took) (i : Inc) (n : Node) (e : Effect) → TookOk B g at ts → at i ≡ Some n → Keeps n e → TookAfter B g at ts i e
  took_keeps at ts i n e ok here k =
      took_set at ts i n e ok here (subst (λ z. Span B g i (ts ++ took_by i z) e.node.learner.slot) (sym k.took) (subst (λ z. Span B g i z e.node.learner.slot) (sym (append_nil ts)) (subst (λ z. Span B g i ts z) (sym k.slot) (ok.span i n here))))
      (λ f. subst (λ z. 0 < z) (sym k.slot) (ok.founders i n here f))

  took_quiet : (at : Nodes) (ts : List Took) (i : Inc) (n : Node) → TookOk B g at ts → at i ≡ Some n → TookAfter B g at ts i (quiet n)
  took_quiet at ts i n ok here = took_keeps at ts i n (quiet n) ok here (record { slot = refl; took = refl })

  -- one slot more
  took_one : (at : Nodes) (ts : List Took) (i : Inc) (n : Node) (w : Turns) (e : Entry) → TookOk B g at ts → at i ≡ Some n → 0 < n.learner.slot → e.slot ≡ n.learner.slot → TookAfter B g at ts i (take_entry n w e)
  took_one at ts i n w e ok here pos at_e =
      took_set at ts i n (take_entry n w e) ok here (record { none = λ z. absurd (omega arith); some = λ z. (o.0, omega (arith, o.1), seen, o.3, o.4) }) (λ f. omega arith)
    where
      o : (s : ℕ) × (s < n.learner.slot) × (slots_by i ts ≡ count_up (s + 1) (n.learner.slot - (s + 1))) × (has_inc g.founders i ≡ true → s ≡ 0) × (has_inc g.founders i ≡ false → B i s)
      o = (ok.span i n here).some pos

      s1 : ℕ
      s1 = o.0 + 1

      x : Taken
      x = record { slot = e.slot; value = e.value; kept = became w.reading e.value }

      seen : slots_by i (ts ++ took_by i (x ∷ [])) ≡ count_up (o.0 + 1) (n.learner.slot + 1 - (o.0 + 1))
      seen =
          let c : ℕ = n.learner.slot - (o.0 + 1) in
          let at_end : n.learner.slot ≡ (o.0 + 1) + (n.learner.slot - (o.0 + 1)) = omega (arith, o.1) in
          let len : suc (n.learner.slot - (o.0 + 1)) ≡ n.learner.slot + 1 - (o.0 + 1) = omega (arith, o.1) in
          slots_append i ts (took_by i (x ∷ [])) ∙ ap (λ z. z ++ slots_by i (took_by i (x ∷ []))) o.2
          ∙ ap (λ z. count_up (o.0 + 1) (n.learner.slot - (o.0 + 1)) ++ z) (slots_own i x ∙ ap (λ z. z ∷ []) (at_e ∙ at_end))
          ∙ count_push (o.0 + 1) (n.learner.slot - (o.0 + 1)) ∙ ap (λ z. count_up (o.0 + 1) z) len

  -- one act after another
  took_also : (at : Nodes) (ts : List Took) (i : Inc) (e : Effect) (f : Node → Effect) → TookAfter B g (put_node at i e.node) (ts ++ took_by i e.took) i (f e.node) → TookAfter B g at ts i (also e f)
  took_also at ts i e f k =
      let n : Node = (f e.node).node in
      let k1 = subst (λ x. TookOk B g x ((ts ++ took_by i e.took) ++ took_by i (f e.node).took)) (put_twice at i e.node n) k in
      subst (λ x. TookOk B g (put_node at i n) x) (append_assoc ts (took_by i e.took) (took_by i (f e.node).took) ∙ ap (λ x. ts ++ x) (sym (map_append (λ (x : Taken). record { by = i; taken = x }) e.took (f e.node).took))) k1

  took_forgets : (at : Nodes) (ts : List Took) (i : Inc) (e : Effect) → TookAfter B g at ts i e → TookAfter B g at ts i (also e forgets)
  took_forgets at ts i e k = took_also at ts i e forgets (took_keeps (put_node at i e.node) (ts ++ took_by i e.took) i e.node (forgets e.node) k (put_same at i e.node) (keeps_forgets e.node))

  -- ---- taking

  took_take : (at : Nodes) (ws : List Message) (cs : List Cast) (ts : List Took) (i : Inc) (n : Node) → Inv g at ws cs ts → TookOk B g at ts → at i ≡ Some n → TookAfter B g at ts i (take n)
  unfolding take
  took_take at ws cs ts i n inv ok here = took_forgets at ts i (take_next n n.turns (next_entry n.learner)) (go n.turns refl (next_entry n.learner) refl)
    where
      go : (o : Option Turns) → n.turns ≡ o → (p : Option Entry) → next_entry n.learner ≡ p → TookAfter B g at ts i (take_next n o p)
      go None t p e = took_quiet at ts i n ok here
      go (Some w) t None e = took_quiet at ts i n ok here
      go (Some w) t (Some d) e =
          let s = (((inv.nodes i n here).learner).turns w t).1 in
          took_one at ts i n w d ok here (omega (arith, s)) (at_slot-slot (λ e. e.slot) n.learner.decided n.learner.slot d (next-entry n.learner d e).1)

  -- ---- a Welcome

  took_welcome : (at : Nodes) (ws : List Message) (cs : List Cast) (ts : List Took) (i : Inc) (n : Node) (x : Welcome) → B i x.slot → Inv g at ws cs ts → TookOk B g at ts → at i ≡ Some n → TookAfter B g at ts i (hear_welcome x n)
  unfolding hear_welcome
  took_welcome at ws cs ts i n x added inv ok here =
      cond_both (not (is_some n.turns) && (is_in_order x && is_for x n.me n.horizon)) (quiet (welcomed n x)) (quiet n) (λ e. TookAfter B g at ts i e) begins (λ e. took_quiet at ts i n ok here)
    where
      begins : (not (is_some n.turns) && (is_in_order x && is_for x n.me n.horizon)) ≡ true → TookAfter B g at ts i (quiet (welcomed n x))
      begins e =
          let none : n.turns ≡ None = is_none n.turns (not-true (is_some n.turns) (and_parts (not (is_some n.turns)) (is_in_order x && is_for x n.me n.horizon) e).0) in
          let l = (inv.nodes i n here).learner in
          let next : n.learner.next ≡ 0 = l.unwelcomed none in
          let zero : n.learner.slot ≡ 0 = omega (arith, l.slot) in
          let empty : slots_by i ts ≡ [] = (ok.span i n here).none zero in
          let no_founder : has_inc g.founders i ≡ true → ⊥ = λ f. let p = ok.founders i n here f in omega (arith, zero) in
          let no_length : x.slot + 1 - (x.slot + 1) ≡ 0 = omega arith in
          let seen : slots_by i ts ≡ count_up (x.slot + 1) (x.slot + 1 - (x.slot + 1)) = empty ∙ ap (λ z. count_up (x.slot + 1) z) (sym no_length) in
          let now : Span B g i ts (x.slot + 1) = record {
            none = λ z. absurd (omega arith);
            some = λ z. (x.slot, omega arith, seen, λ f. absurd (no_founder f), λ f. added);
          } in
          took_set at ts i n (quiet (welcomed n x)) ok here (subst (λ z. Span B g i z (x.slot + 1)) (sym (append_nil ts)) now) (λ f. absurd (no_founder f))

  -- ---- every act

  took_hear : (at : Nodes) (ws : List Message) (cs : List Cast) (ts : List Took) (i j : Inc) (n : Node) (x : Wire) → ((w : Welcome) → x ≡ Greet w → B i w.slot) → Inv g at ws cs ts → TookOk B g at ts → at i ≡ Some n → TookAfter B g at ts i (hear j x n)
  unfolding hear
  took_hear at ws cs ts i j n (Prepare b s) added inv ok here = took_keeps at ts i n (hear_prepare j b s n) ok here (keeps_prepare j b s n)
  took_hear at ws cs ts i j n (Promise b s xs) added inv ok here = took_keeps at ts i n (hear_promise j b xs n) ok here (keeps_promise j b xs n)
  took_hear at ws cs ts i j n (Accept b t v) added inv ok here = took_keeps at ts i n (hear_accept j b t v n) ok here (keeps_accept j b t v n)
  took_hear at ws cs ts i j n (Accepted b t) added inv ok here = took_keeps at ts i n (hear_accepted j b t n) ok here (keeps_accepted j b t n)
  took_hear at ws cs ts i j n (Learn t v) added inv ok here = took_keeps at ts i n (hear_learn t v n) ok here (keeps_learn t v n)
  took_hear at ws cs ts i j n (Offer v) added inv ok here = took_keeps at ts i n (hear_offer v n) ok here (keeps_offer v n)
  took_hear at ws cs ts i j n (Greet x) added inv ok here = took_welcome at ws cs ts i n x (added x refl) inv ok here
  took_hear at ws cs ts i j n (Ask x) added inv ok here = took_quiet at ts i n ok here
  took_hear at ws cs ts i j n (Give x) added inv ok here = took_quiet at ts i n ok here
  took_hear at ws cs ts i j n (Alive k) added inv ok here = took_keeps at ts i n (hear_alive j k n) ok here (keeps_alive j k n)
  took_hear at ws cs ts i j n Gone added inv ok here = took_quiet at ts i n ok here

  took_step : (at : Nodes) (ws : List Message) (cs : List Cast) (ts : List Took) (i : Inc) (n : Node) (e : PaxosEvent) → ((m : Message) (w : Welcome) → e ≡ Heard m → m.wire ≡ Greet w → B i w.slot) → Inv g at ws cs ts → TookOk B g at ts → at i ≡ Some n → TookAfter B g at ts i (node_step e n)
  unfolding node_step
  took_step at ws cs ts i n (Heard m) added inv ok here = took_forgets at ts i (hear m.from m.wire n) (took_hear at ws cs ts i m.from n m.wire (λ w q. added m w refl q) inv ok here)
  took_step at ws cs ts i n (Own v) added inv ok here = took_forgets at ts i (own_value v n) (took_keeps at ts i n (own_value v n) ok here (keeps_own v n))
  took_step at ws cs ts i n Campaign added inv ok here = took_forgets at ts i (campaign n) (took_keeps at ts i n (campaign n) ok here (keeps_campaign n))
  took_step at ws cs ts i n Tick added inv ok here = took_forgets at ts i (tick n) (took_keeps at ts i n (tick n) ok here (keeps_tick n))
  took_step at ws cs ts i n Propose added inv ok here = took_forgets at ts i (propose_all n) (took_keeps at ts i n (propose_all n) ok here (keeps_all n))

  took_does : (at : Nodes) (ws : List Message) (cs : List Cast) (ts : List Took) (i : Inc) (a : Act) (n : Node) → Inv g at ws cs ts → TookOk B g at ts → at i ≡ Some n → TookAfter B g at ts i (does i a n)
  took_does at ws cs ts i (Owns v) n inv ok here =
      cond_both (inc_eq v.id.origin i) (node_step (Own v) n) (quiet n) (λ e. TookAfter B g at ts i e) (λ h. took_step at ws cs ts i n (Own v) (λ m w q. absurd (cc)) inv ok here) (λ h. took_quiet at ts i n ok here)
  took_does at ws cs ts i Campaigns n inv ok here = took_step at ws cs ts i n Campaign (λ m w q. absurd (cc)) inv ok here
  took_does at ws cs ts i Ticks n inv ok here = took_step at ws cs ts i n Tick (λ m w q. absurd (cc)) inv ok here
  took_does at ws cs ts i Proposes n inv ok here = took_step at ws cs ts i n Propose (λ m w q. absurd (cc)) inv ok here
  took_does at ws cs ts i (Takes s) n inv ok here = took_take at ws cs ts i n inv ok here

  took_all : (at : Nodes) (ws : List Message) (cs : List Cast) (ts : List Took) (i : Inc) (l : List Act) (n : Node) → Inv g at ws cs ts → TookOk B g at ts → at i ≡ Some n → TookAfter B g at ts i (does_all i l n)
  took_all at ws cs ts i [] n inv ok here = took_quiet at ts i n ok here
  took_all at ws cs ts i (a ∷ l) n inv ok here =
      let x : Effect = does i a n in
      took_also at ts i x (does_all i l) (took_all (put_node at i x.node) (ws ++ x.sent) (cs ++ casts_by i x.cast) (ts ++ took_by i x.took) i l x.node (safe_does g i a n at ws cs ts inv here) (took_does at ws cs ts i a n inv ok here) (put_same at i x.node))

-- ---- every event

took_more : (A B : Inc → ℕ → Type 0) → ((i : Inc) (s : ℕ) → A i s → B i s) → (g : Group) (at : Nodes) (ts : List Took) → TookOk A g at ts → TookOk B g at ts
took_more A B f g at ts ok = record {
  absent = ok.absent;
  there = ok.there;
  span = λ i n h. let o = ok.span i n h in record { none = o.none; some = λ z. let r = o.some z in (r.0, r.1, r.2, r.3, λ q. f i r.0 (r.4 q)) };
  founders = ok.founders;
}

abbrev TookGood : Group → World → Type 0
TookGood g w = TookOk (Begun g w.cast) g w.at w.took

took_acts : (arrange : List Message → List Message) (g : Group) (w : World) (i : Inc) (l : List Act) (f : Node → Effect) → Good g w → TookGood g w
    → ((n : Node) → w.at i ≡ Some n → InvAfter g w.at w.wire w.cast w.took i (f n))
    → ((cs : List Cast) → ((c : Cast) → In c w.cast → In c cs) → (n : Node) → w.at i ≡ Some n → TookOk (Begun g cs) g w.at w.took → TookAfter (Begun g cs) g w.at w.took i (f n)) → TookGood g (acts arrange w i l f)
took_acts arrange g w i l f inv ok safe step = go (w.at i) refl
  where
    go : (o : Option Node) → w.at i ≡ o → TookGood g (act_on arrange w i l f o)
    go None e = ok
    go (Some n) e =
        let x : Effect = also (f n) (does_all i l) in
        let cs : List Cast = w.cast ++ casts_by i x.cast in
        let more : (c : Cast) → In c w.cast → In c (w.cast ++ casts_by i x.cast) = λ c h. in_left c w.cast (casts_by i x.cast) h in
        let ok' = took_more (Begun g w.cast) (Begun g (w.cast ++ casts_by i x.cast)) (λ j s b. begun_grows g w.cast (w.cast ++ casts_by i x.cast) more j s b) g w.at w.took ok in
        let k = step (w.cast ++ casts_by i x.cast) more n e ok' in
        cond_both (has_inc w.ended i) w (acted arrange (makes w (all_made_by i l)) i x) (λ v. TookGood g v) (λ h. ok)
        (λ h. took_also (Begun g (w.cast ++ casts_by i x.cast)) g w.at w.took i (f n) (does_all i l)
        (took_all (Begun g (w.cast ++ casts_by i x.cast)) g (put_node w.at i (f n).node) (w.wire ++ (f n).sent) (w.cast ++ casts_by i (f n).cast) (w.took ++ took_by i (f n).took) i l (f n).node (safe n e) k (put_same w.at i (f n).node)))

took_starts : (g : Group) (w : World) (j : Joiner) (contact : Inc) → TookGood g w → TookGood g (starts g w j contact)
took_starts g w j contact ok = go (w.at j.inc) refl
  where
    go : (o : Option Node) → w.at j.inc ≡ o → TookGood g (starts g w j contact)
    go (Some n) e = rw e ok
    go None e = rw e new
      where
        m : Node
        m = joiner g j.inc

        at' : Nodes
        at' = put_node w.at j.inc (joiner g j.inc)

        new : TookOk (Begun g w.cast) g at' w.took
        new = record {
          there = λ i f. elim (cases_Bool (inc_eq j.inc i)) [ inl h ↦ (m, rw h refl) | inr h ↦ let y = ok.there i f in (y.0, rw h y.1) ];
          absent = λ i h. elim (cases_Bool (inc_eq j.inc i)) [ inl f ↦ let k : Some m ≡ None = rw f at h in absurd (cc) | inr f ↦ ok.absent i (rw f at h) ];
          span = λ i y h. elim (put_cases w.at j.inc m i y h) [
            | inl k ↦ subst (λ z. Span (Begun g w.cast) g i w.took z.learner.slot) k.1 (record { none = λ z. subst (λ z. slots_by z w.took ≡ []) k.0 (ok.absent j.inc e); some = λ z. absurd (omega arith) })
            | inr k ↦ ok.span i y k.1
          ];
          founders = λ i y h f. elim (put_cases w.at j.inc m i y h) [
            | inl k ↦ let z = ok.there j.inc (subst (λ z. has_inc g.founders z ≡ true) (sym k.0) f) in let q : None ≡ Some z.0 = sym e ∙ z.1 in absurd (cc)
            | inr k ↦ ok.founders i y k.1 f
          ];
        }

took_event : (arrange : List Message → List Message) (g : Group) (w : World) (e : Event) → Good g w → TookGood g w → TookGood g (happens arrange g w e)
took_event arrange g w (Hears k l) inv ok = go (slice_get w.wire k) refl
  where
    go : (o : Option Message) → slice_get w.wire k ≡ o → TookGood g (hears arrange w l o)
    go None e = ok
    go (Some m) e =
        let sent = inv.wire m (get-in w.wire k m e) in
        took_acts arrange g w m.to l (node_step (Heard m)) inv ok (λ n here. safe_step g m.to (Heard m) n w.at w.wire w.cast w.took sent inv here)
        (λ cs more n here ok'. took_step (Begun g cs) g w.at w.wire w.cast w.took m.to n (Heard m) (added cs more) inv ok' here)
      where
        added : (cs : List Cast) → ((c : Cast) → In c w.cast → In c cs) → (m' : Message) (x : Welcome) → Heard m ≡ Heard m' → m'.wire ≡ Greet x → Begun g cs m.to x.slot
        added cs more m' x h q =
            let same : m ≡ m' = cc in
            let sent : WireOk g w.at w.cast m.from m.to (Greet x) = subst (λ z. WireOk g w.at w.cast m.from m.to z) (ap (λ z. z.wire) same ∙ q) (inv.wire m (get-in w.wire k m e)) in
            begun_grows g w.cast cs more m.to x.slot sent.begun
took_event arrange g w (Does i l) inv ok = took_acts arrange g w i l quiet inv ok (λ n here. safe_quiet g i n w.at w.wire w.cast w.took inv here) (λ cs more n here ok'. took_quiet (Begun g cs) g w.at w.took i n ok' here)
took_event arrange g w (Starts j contact) inv ok = took_starts g w j contact ok
took_event arrange g w (Ends i) inv ok = ok

took_run : (arrange : List Message → List Message) → Arranges arrange → (g : Group) (es : List Event) (w : World) → Good g w → TookGood g w → TookGood g (run_from arrange g es w)
took_run arrange adds_none g [] w inv ok = ok
took_run arrange adds_none g (e ∷ es) w inv ok = took_run arrange adds_none g es (happens arrange g w e) (good_event arrange adds_none g w e inv) (took_event arrange g w e inv ok)

took_start : (g : Group) → TookGood g (start g)
took_start g = record {
  there = λ i f. (founder g i, rw f refl);
  absent = λ i h. refl;
  span = λ i n h. elim (cases_Bool (has_inc g.founders i)) [
    | inl f ↦ let k : Some (founder g i) ≡ Some n = rw f at h in let z : founder g i ≡ n = cc in subst (λ y. Span (Begun g []) g i [] y.learner.slot) z (record { none = λ q. refl; some = λ q. (0, omega arith, refl, λ p. refl, λ p. absurd (false≢true (sym p ∙ f))) })
    | inr f ↦ let k : None ≡ Some n = rw f at h in absurd (cc)
  ];
  founders = λ i n h f. let k : Some (founder g i) ≡ Some n = rw f at h in let z : founder g i ≡ n = cc in subst (λ y. 0 < y.learner.slot) z (omega arith);
}

took_good : (arrange : List Message → List Message) → Arranges arrange → (g : Group) (es : List Event) → TookGood g (run arrange g es)
unfolding run
took_good arrange adds_none g es = took_run arrange adds_none g es (start g) (good_start g) (took_start g)

-- ---- the law

pub consecutive : InEveryRun Consecutive
consecutive arrange adds_none g es far i n here = (none, some)
  where
    w : World
    w = run arrange g es

    inv : Good g (run arrange g es)
    inv = good arrange adds_none g es

    span : Span (Begun g (run arrange g es).cast) g i (run arrange g es).took n.learner.slot
    span = (took_good arrange adds_none g es).span i n here

    none : n.turns ≡ None → slots_by i (run arrange g es).took ≡ []
    none e =
        let l = (inv.nodes i n here).learner in
        let next : n.learner.next ≡ 0 = l.unwelcomed e in
        span.none (omega (arith, l.slot, next))

    added : (s : ℕ) → Begun g (run arrange g es).cast i s → AddedIn g (run arrange g es).cast i s
    added s b =
        let d = subst (λ z. Decided g (run arrange g es).cast z b.value) b.slot b.value_decided in
        (b.before, b.value, b.joiner, log_chosen g (first_ballot g) (run arrange g es).cast far (sound_of g (run arrange g es).at (run arrange g es).wire (run arrange g es).cast (run arrange g es).took inv) (b.before ++ b.value ∷ []) (log_more g (run arrange g es).cast b.before b.value b.before_decided d), b.slot, b.adds, b.names, b.kept, b.effect)

    some : (t : Turns) → n.turns ≡ Some t → (s : ℕ) × (s ≤ t.slot) × (slots_by i (run arrange g es).took ≡ count_up (s + 1) (t.slot - s)) × (has_inc g.founders i ≡ true → s ≡ 0) × (has_inc g.founders i ≡ false → AddedIn g (run arrange g es).cast i s)
    some t e =
        let at_t = (((inv.nodes i n here).learner).turns t e).1 in
        let o = span.some (omega (arith, at_t)) in
        let len : n.learner.slot - (o.0 + 1) ≡ t.slot - o.0 = omega (arith, at_t) in
        (o.0, omega (arith, o.1, at_t), o.2 ∙ ap (λ z. count_up (o.0 + 1) z) len, o.3, λ f. added o.0 (o.4 f))
