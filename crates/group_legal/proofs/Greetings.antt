-- The place of a Welcome is that of its joiner's Add, which the sender had taken.
use Rattle.std.proofs.Common.{◌≡◌, ◌⊎◌, inl, inr, ℕ, suc, ◌≤◌, ◌<◌, Bool, true, false, cond, Some, None, List, [], ◌∷◌, sym, ap, subst, ◌∙◌, length, arith}
use Rattle.std.proofs.lemmas.Bool.{cases_Bool}
use Rattle.gr_ids.specs.declared.names.Inc.{Inc}
use Rattle.slot_values.specs.declared.value.Joiner.{Joiner}
use Rattle.slot_values.specs.declared.value.Value.{Value}
use Rattle.slot_values.specs.declared.value.What.{What}
use Rattle.slot_values.specs.declared.value.What.TheVariants.{Add}
use Rattle.slot_values.specs.declared.kept.Kept.TheVariants.{At as KeptAt, Skipped as IsSkipped}
use Rattle.slot_values.specs.Log.{became}
use Rattle.txn_forms.specs.declared.body.Body.TheVariants.{Txn as Writes}
use Rattle.txn_forms.specs.declared.body.Txn.{Txn}
use Rattle.paxos_forms.specs.declared.welcome.Welcome.{Welcome}
use Rattle.node_rules.proofs.Incs.{inc_same}
use Rattle.group_rules.specs.declared.marks.Effect.TheVariants.{Plain}
use Rattle.group_rules.specs.Events.{Came, Took, Skips, Enters, Hears, Life, Setup, Entry}
use Rattle.group_rules.specs.Life.{view, taken, entry_at, entered, has_give}
use Rattle.group_rules.specs.View.{effect_in}
use Rattle.group_rules.specs.Parts.{open_parts, held}
use Rattle.group_rules.specs.Taking.{takes_slots, effect_of, entry_of}
use Rattle.group_rules.specs.OneList.{reading_of, listed, value_at, before_slot}
use Rattle.group_rules.specs.Legal.{IsPast, DidAt, last_slot}
use Rattle.group_rules.specs.World.{Past, Does, life_in}
use Rattle.group_bridge.specs.Left.{IsEntered}
use Rattle.group_runs.specs.Runs.{is_founder, AllDid, WasGreeted, WasSentAs, IsDone}
use Rattle.group_order.specs.OneLog.{Viewed, TakenAs, JoinedAs, Follows, AgreesAt, IsTaken, LogOver}
use Rattle.group_order.proofs.Nexts.{past_self, past_of, did_past, done_at, last_done, welcomes_at}
use Rattle.group_order.proofs.Lookups.{value_within}
use Rattle.group_order.proofs.Shapes.{Shape, shapes, takes_after, Asks}
use Rattle.group_laws.specs.Lists as listing
use Rattle.group_laws.specs.Entries as law
use Rattle.group_laws.specs.View as seen
use Rattle.group_laws.specs.Lawful.{upto}
use Rattle.group_laws.proofs.Lists.{pasts_compare}
use Rattle.group_laws.proofs.Views.{rank, rank_up}
use Rattle.group_laws.proofs.Acks.{upto_is_past, length_upto, values_past}
use Rattle.group_lives.specs.Lives.{does_entry, placed}
use Rattle.group_lives.specs.Sound.{IsNew, AddsNew}
use Rattle.group_legal.specs.Bases.{list_of}
use Rattle.group_legal.proofs.EntryEffects.{next_place}
use Rattle.group_legal.proofs.Newcomers.{adds_new}
use Rattle.group_legal.proofs.Prefix.{StandsAt, entry_stands}
use Rattle.group_legal.proofs.Takers.{adds_past}
use Rattle.group_legal.proofs.Points.{values_length, did_here}

some_is : {A : Type 0} (x y : A) → Some x ≡ Some y → x ≡ y
some_is x y q = cc q

-- ---- a list adds nobody twice

-- a value of the list that adds an incarnation
record Joined (k : List law.Value) (i : Inc) (n : ℕ) : Type 0 where
  value : law.Value
  front : List law.Value
  there : listing.IsPast (value ∷ front) k
  joiner : Joiner
  body : value.body ≡ law.Joins joiner
  inc : joiner.inc ≡ i
  place : n ≡ suc (length front)

-- after it the incarnation isn't absent
came : (t : Setup) (v : law.Value) (p : List law.Value) (j : Joiner) → v.body ≡ law.Joins j → 0 < rank (seen.standing t (v ∷ p) j.inc)
came t v p j e =
    subst (λ b. 0 < rank (seen.stands_after j.inc v.origin b (seen.standing t p j.inc))) (sym e)
    (subst (λ b. 0 < rank (cond b (seen.on_join (seen.standing t p j.inc)) (seen.standing t p j.inc))) (sym (inc_same j.inc)) (joins (seen.standing t p j.inc)))
  where
    joins : (s : seen.Standing) → 0 < rank (seen.on_join s)
    joins seen.Absent = omega arith
    joins seen.Recovering = omega arith
    joins seen.Active = omega arith
    joins seen.Gone = omega arith

-- before it the incarnation is absent
absent : (t : Setup) (v : law.Value) (p : List law.Value) (j : Joiner) → AddsNew t (v ∷ p) → v.body ≡ law.Joins j → seen.standing t p j.inc ≡ seen.Absent
absent t v p j a e = is_new v.body e a.0
  where
    is_new : (b : law.Body) → b ≡ law.Joins j → IsNew t p b → seen.standing t p j.inc ≡ seen.Absent
    is_new b e n = subst (IsNew t p) e n

not_later : (t : Setup) (k : List law.Value) (i : Inc) (n m : ℕ) → AddsNew t k → (a : Joined k i n) → (b : Joined k i m) → listing.IsPast (a.value ∷ a.front) b.front → ⊥
not_later t k i n m new a b h =
    let up = rank_up t (a.value ∷ a.front) b.front i h in
    let in_a : 0 < rank (seen.standing t (a.value ∷ a.front) i) =
    subst (λ y. 0 < rank (seen.standing t (a.value ∷ a.front) y)) a.inc (came t a.value a.front a.joiner a.body) in
    let in_b : seen.standing t b.front i ≡ seen.Absent =
    ap (seen.standing t b.front) (sym b.inc) ∙ absent t b.value b.front b.joiner (adds_past t (b.value ∷ b.front) k b.there new) b.body in
    let none : rank (seen.standing t b.front i) ≡ 0 = ap rank in_b in
    omega (arith, up, in_a, none)

joined_once : (t : Setup) (k : List law.Value) (i : Inc) (n m : ℕ) → AddsNew t k → Joined k i n → Joined k i m → n ≡ m
joined_once t k i n m new a b = by (pasts_compare (a.value ∷ a.front) (b.value ∷ b.front) k a.there b.there)
  where
    same : (x y : law.Value) (p q : List law.Value) → x ∷ p ≡ y ∷ q → length p ≡ length q
    same x y p q e = let z : p ≡ q = cc e in ap length z

    by : listing.IsPast (a.value ∷ a.front) (b.value ∷ b.front) ⊎ listing.IsPast (b.value ∷ b.front) (a.value ∷ a.front) → n ≡ m
    by (inl (inl e)) = a.place ∙ ap suc (same a.value b.value a.front b.front e) ∙ sym b.place
    by (inr (inl e)) = a.place ∙ ap suc (sym (same b.value a.value b.front a.front e)) ∙ sym b.place
    by (inl (inr h)) = absurd (not_later t k i n m new a b h)
    by (inr (inr h)) = absurd (not_later t k i m n new b a h)

-- ---- Adds that were taken

add_holds : (t : Setup) (l : Life) (e : Entry) (s p : ℕ) (b : Bool) (j : Joiner) → e ≡ entry_of t l s p b e.value → e.value.what ≡ Add j → e.holds ≡ None
add_holds t l e s p b j q a = ap (λ (y : Entry). y.holds) q ∙ ap (held (open_parts l e.value.id.origin)) a

-- one that takes effect is Plain
add_plain : (t : Setup) (l : Life) (e : Entry) (s p : ℕ) (j : Joiner) → e ≡ entry_of t l s p true e.value → e.value.what ≡ Add j → e.effect ≡ Plain
add_plain t l e s p j q a =
    ap (λ (y : Entry). y.effect) q
    ∙ ap (effect_of t l true e.value (open_parts l e.value.id.origin)) (ap (held (open_parts l e.value.id.origin)) a)
    ∙ ap (λ (y : What). effect_in (view t l) true y None) a

module _ (t : Setup) (w : Past) (one : LogOver t w) (done : AllDid (IsDone t) w) where
  -- the Add of an incarnation, taken with effect
  record TookAdd (i : Inc) (e : Entry) : Type 0 where
    who : Inc
    before : Past
    took : DidAt w who (Took e) before
    joiner : Joiner
    adds : e.value.what ≡ Add joiner
    inc : joiner.inc ≡ i
    effect : e.effect ≡ Plain

  joined_at : (i : Inc) (e : Entry) → TookAdd i e → Joined (law.values (list_of t one.log)) i e.place
  joined_at i e a = record {
    value = (placed x).value;
    front = law.values (upto n (list_of t one.log));
    there = subst (λ y. listing.IsPast (law.values y) (law.values (list_of t one.log))) stands.1
        (values_past (upto (suc n) (list_of t one.log)) (list_of t one.log) (upto_is_past (suc n) (list_of t one.log)));
    joiner = a.joiner;
    body = ap (λ (y : What). does_entry y x.effect x.holds) (ap (λ (y : Value). y.what) g.listed.2.value ∙ a.adds) ∙ ap (λ f. does_entry (Add a.joiner) f x.holds) effect;
    inc = a.inc;
    place = place ∙ ap suc (sym (values_length (upto n (list_of t one.log)) ∙ length_upto n (list_of t one.log) (let z = stands.0 in omega (arith, z))));
  }
    where
      g : TakenAs t one.log a.before a.who e
      g = done_at (Follows t one.log) w a.before a.who (Took e) one.follows a.took

      x : Entry
      x = g.listed.0

      n : ℕ
      n = (reading_of t (before_slot one.log e.slot)).place

      place : e.place ≡ suc n
      place = ap (λ (y : Entry). y.place) g.is_it ∙ next_place (reading_of t (before_slot one.log e.slot)) e.value g.place g.effect g.kept

      stands : StandsAt n x (list_of t one.log)
      stands = entry_stands t one.log n x (ap (entry_at (listed t one.log)) (sym place) ∙ g.listed.1)

      effect : x.effect ≡ Plain
      effect = g.listed.2.effect (λ y h. no_txn y h) ∙ a.effect
        where
          no_txn : (y : Txn) → e.holds ≡ Some (Writes y) → ⊥
          no_txn y h = let z : None ≡ Some (Writes y) = sym (add_holds t (life_in a.before a.who) e e.slot g.place g.effect a.joiner g.is_it a.adds) ∙ h in cc z

  -- two Adds of one incarnation have one place
  one_add : (i : Inc) (e f : Entry) → TookAdd i e → TookAdd i f → e.place ≡ f.place
  one_add i e f a b = joined_once t (law.values (list_of t one.log)) i e.place f.place (adds_new t [] one.log) (joined_at i e a) (joined_at i f b)

  -- what was taken at a slot has the place of the log with that slot
  place_of : (i : Inc) (e : Entry) (p : Past) → DidAt w i (Took e) p → e.place ≡ (reading_of t (before_slot one.log (suc e.slot))).place
  place_of i e p h = ap taken (sym here) ∙ agrees.place ∙ ap (λ l. (reading_of t (before_slot one.log (suc (last_slot l)))).place) here
    where
      here : life_in (Does i (Took e) ∷ p) i ≡ Took e ∷ life_in p i
      here = did_here p i (Took e)

      takes : takes_slots (life_in p i) ≡ true
      takes = (done_at (IsDone t) w p i (Took e) done h).1.1

      shape : Shape t i (life_in p i)
      shape = shapes t p (did_past (IsDone t) w (Does i (Took e) ∷ p) done h).1 i

      viewed : Viewed t i (Took e ∷ life_in p i)
      viewed = elim (cases_Bool (is_founder t i)) [ inl f ↦ inl (f, omega arith) | inr f ↦ (let k = takes_after t i (life_in p i) shape takes f in inr (k.0, k.1)) ]

      agrees : AgreesAt t one.log (Does i (Took e) ∷ p) i
      agrees = one.agrees (Does i (Took e) ∷ p) h i (subst (Viewed t i) (sym here) viewed)

  -- ---- Welcomes

  -- the place of the log with the slot of the Add was taken by then
  record PlaceTaken (c : Past) (s : ℕ) : Type 0 where
    who : Inc
    add : Entry
    before : Past
    earlier : IsPast (Does who (Took add) ∷ before) c
    place : add.place ≡ (reading_of t (before_slot one.log (suc s))).place

  -- the entry of the slot of a Welcome is the joiner's Add
  module _ (q : Past) (j : Inc) (u : Welcome) (h : DidAt w j (Enters u) q) where
    joined : JoinedAs t one.log j u
    joined = done_at (Follows t one.log) w q j (Enters u) one.follows h

    record TookSlot : Type 0 where
      entry : Entry
      add : TookAdd j entry
      slot : entry.slot ≡ u.slot

    same_kept : (p r : ℕ) (b c : Bool) → KeptAt p b ≡ KeptAt r c → b ≡ c
    same_kept p r b c e = cc e

    took_slot : TookSlot
    took_slot = by (one.reached (Does j (Enters u) ∷ q) h j u.slot (value_within one.log u.slot joined.value joined.there).0 (subst (λ l. u.slot ≤ last_slot l) (sym (did_here q j (Enters u))) (omega arith)))
      where
        skipped : (i : Inc) (p : Past) (v : Value) → DidAt w i (Skips u.slot v) p → ⊥
        skipped i p v k =
            let f = done_at (Follows t one.log) w p i (Skips u.slot v) one.follows k in
            let same : joined.value ≡ v = some_is joined.value v (sym joined.there ∙ f.value) in
            let z : KeptAt joined.place true ≡ IsSkipped = joined.kept ∙ ap (became (reading_of t (before_slot one.log u.slot))) same ∙ f.skipped in cc z

        took : (i : Inc) (p : Past) (e : Entry) → e.slot ≡ u.slot → DidAt w i (Took e) p → TookSlot
        took i p e s k = record {
          entry = e;
          add = record { who = i; before = p; took = k; joiner = joined.joiner; adds = adds; inc = joined.inc; effect = plain };
          slot = s;
        }
          where
            g : TakenAs t one.log p i e
            g = done_at (Follows t one.log) w p i (Took e) one.follows k

            same : e.value ≡ joined.value
            same = some_is e.value joined.value (sym g.value ∙ ap (value_at one.log) s ∙ joined.there)

            adds : e.value.what ≡ Add joined.joiner
            adds = ap (λ (y : Value). y.what) same ∙ joined.adds

            effect : g.effect ≡ true
            effect = same_kept g.place joined.place g.effect true (g.kept ∙ (λ n. became (reading_of t (before_slot one.log (s n))) (same n)) ∙ sym joined.kept)

            plain : e.effect ≡ Plain
            plain = add_plain t (life_in p i) e e.slot g.place joined.joiner (g.is_it ∙ ap (λ b. entry_of t (life_in p i) e.slot g.place b e.value) effect) adds

        by : IsTaken u.slot (Does j (Enters u) ∷ q) → TookSlot
        by (i, p, inl k) = took i p k.0 k.1 (past_of (Does j (Enters u) ∷ q) (Does i (Took k.0) ∷ p) w h k.2)
        by (i, p, inr k) = absurd (skipped i p k.0 (past_of (Does j (Enters u) ∷ q) (Does i (Skips u.slot k.0) ∷ p) w h k.1))

    -- its sender had taken the Add
    welcome_place : PlaceTaken q u.slot
    welcome_place = record {
      who = greeted.who;
      add = greeted.add;
      before = greeted.before;
      earlier = earlier;
      place =
          one_add j greeted.add took_slot.entry greeted_add took_slot.add
          ∙ place_of took_slot.add.who took_slot.entry took_slot.add.before took_slot.add.took
          ∙ ap (λ n. (reading_of t (before_slot one.log (suc n))).place) took_slot.slot;
    }
      where
        entering : IsEntered j (life_in q j) u
        entering = (done_at (IsDone t) w q j (Enters u) done h).1.1

        heard : (p : Past) × IsPast (Does j (Came (Hears entering.message)) ∷ p) q × (life_in p j ≡ entering.past)
        heard = last_done q j (Came (Hears entering.message)) entering.past entering.heard

        came_at : Past
        came_at = heard.0

        past_q : IsPast q w
        past_q = past_of (Does j (Enters u) ∷ q) q w h (inr (past_self q))

        came_done : IsDone t came_at j (Came (Hears entering.message))
        came_done = done_at (IsDone t) w came_at j (Came (Hears entering.message)) done (past_of q (Does j (Came (Hears entering.message)) ∷ came_at) w past_q heard.1)

        greeted : WasGreeted t came_at entering.message u
        greeted = subst (λ y. WasSentAs t came_at entering.message y) entering.wire came_done.2

        earlier : IsPast (Does greeted.who (Took greeted.add) ∷ greeted.before) q
        earlier =
            past_of came_at (Does greeted.who (Took greeted.add) ∷ greeted.before) q
            (past_of (Does j (Came (Hears entering.message)) ∷ came_at) came_at q heard.1 (inr (past_self came_at))) greeted.took

        greeted_add : TookAdd j greeted.add
        greeted_add = record {
          who = greeted.who;
          before = greeted.before;
          took = past_of q (Does greeted.who (Took greeted.add) ∷ greeted.before) w past_q earlier;
          joiner = greeted.joiner;
          adds = greeted.adds;
          inc = sym greeted.to ∙ came_done.1;
          effect = greeted.effect;
        }

  place_later : (q c : Past) (s : ℕ) → IsPast q c → PlaceTaken q s → PlaceTaken c s
  place_later q c s h p = record { who = p.who; add = p.add; before = p.before; earlier = past_of q (Does p.who (Took p.add) ∷ p.before) c h p.earlier; place = p.place }

  -- the place of one that was welcomed, and has no Give, was taken by another
  pub record TakenThere (c : Past) (n : ℕ) : Type 0 where
    pub who : Inc
    pub add : Entry
    pub before : Past
    pub earlier : IsPast (Does who (Took add) ∷ before) c
    pub place : n ≡ add.place

  pub welcomed_at : (c : Past) → IsPast c w → (j : Inc) (u : Welcome) → entered (life_in c j) ≡ Some u → is_founder t j ≡ false → has_give (life_in c j) ≡ false
      → TakenThere c (taken (life_in c j))
  welcomed_at c h j u e f g = record {
    who = was.who;
    add = was.add;
    before = was.before;
    earlier = was.earlier;
    place = agrees.place ∙ ap (λ n. (reading_of t (before_slot one.log (suc n))).place) asks.slot ∙ sym was.place;
  }
    where
      was : PlaceTaken c u.slot
      was = welcomes_at (λ i s. PlaceTaken c s) t c taken_by j u e
        where
          taken_by : (q : Past) (i : Inc) (v : Welcome) → IsPast (Does i (Enters v) ∷ q) c → PlaceTaken c v.slot
          taken_by q i v k = place_later q c v.slot (past_of (Does i (Enters v) ∷ q) q c k (inr (past_self q))) (welcome_place q i v (past_of c (Does i (Enters v) ∷ q) w h k))

      asks : Asks (life_in c j) u
      asks = ((shapes t c (did_past (IsDone t) w c done h) j).joiner f).ungiven u e g

      agrees : AgreesAt t one.log c j
      agrees = one.agrees c h j (inr (u, e))
