-- Every history agrees with the list that the log gives up to its last slot.
use Rattle.std.proofs.Common.{ltb, ◌≡◌, inl, inr, ℕ, suc, ◌+◌, ◌<◌, Bool, true, false, Some, None, List, [], ◌∷◌, refl, sym, ap, subst, ◌∙◌, length, map, arith}
use Rattle.std.specs.Prelude.{if◌then◌else◌}
use Rattle.std.proofs.lemmas.Bool.{false≢true, cases_Bool, leb-true, leb-false, le-leb}
use Rattle.gr_ids.specs.Names.{inc_eq, has_inc}
use Rattle.gr_ids.specs.declared.names.Inc.{Inc}
use Rattle.node_rules.specs.Node.{Node}
use Rattle.node_rules.specs.Welcoming.{welcome_of}
use Rattle.slot_values.specs.declared.value.Value.{Value}
use Rattle.slot_values.specs.declared.kept.Kept.TheVariants.{At as KeptAt, Skipped as IsSkipped}
use Rattle.slot_values.specs.Log.{Reading, Turns, incs, is_kept, has_effect, became}
use Rattle.paxos_forms.specs.declared.welcome.Welcome.{Welcome}
use Rattle.paxos_forms.specs.declared.welcome.WelcomeMember.{WelcomeMember}
use Rattle.paxos_forms.specs.declared.recovery.Give.{Give}
use Rattle.group_rules.specs.View.{seated, shown}
use Rattle.group_rules.specs.Events.{Did, Founds, Starts, Came, Made, Took, Skips, Done, Committed, Is, Gave, Answered, Begun, Changed, Replied, Called, AsksCommit, Ends, Enters, Restores, AskFails, Hears, Ticks, Works, Calls, Operates, Life, Setup, Entry, Cert}
use Rattle.group_rules.specs.Life.{state, is_offline, view, entered, has_give}
use Rattle.group_rules.specs.Legal.{IsPast, last_slot}
use Rattle.group_rules.specs.Parts.{open_parts}
use Rattle.group_rules.specs.Recovery.{all_parts}
use Rattle.txn_forms.specs.Parts.{parts_of}
use Rattle.group_rules.specs.Taking.{takes_slots}
use Rattle.group_rules.specs.OneList.{reading_of, value_at, before_slot, listed}
use Rattle.group_rules.specs.World.{Past, Does, Writes, Halts, life_in}
use Rattle.group_runs.specs.Runs.{IsSetup, is_founder, AllDid, IsDone}
use Rattle.group_order.specs.OneLog.{is_member_of, IsReady, AgreesWith, Viewed, AgreesAt, SkippedAs}
use Rattle.group_order.proofs.Steps.{SlotTaken, Steps}
use Rattle.node_rules.proofs.Incs.{inc_same, inc_is}
use Rattle.group_order.proofs.Flips.{before_next}
use Rattle.group_order.proofs.Shapes.{Shape, shapes, takes_after}
use Rattle.group_order.proofs.Spans.{enters_waits}
use Rattle.group_order.proofs.Nexts.{past_self, past_of, did_past, done_at}
use Rattle.group_order.proofs.Listed.{listed_seats}
use Rattle.group_order.proofs.Members.{members_were}
use Rattle.group_order.proofs.Seats.{Distinct, members_distinct}
use Rattle.group_order.proofs.Entries.{took_agrees, skipped_agrees}
use Rattle.group_order.proofs.Begins.{welcome_view, waits_none, parts_given, parts_missing, places_rise}

some_none : {A : Type 0} (x : A) → Some x ≡ None → ⊥
some_none x e = absurd (cc e)

some_is : {A : Type 0} {x y : A} → Some x ≡ Some y → x ≡ y
some_is {x = x} {y = y} e = cc

before_one : (log : List Value) → before_slot log 1 ≡ []
before_one [] = refl
before_one (v ∷ log) = ap (λ b. elim b [ true ↦ before_slot log 1 | false ↦ v ∷ log ]) (le-leb 1 (suc (length log)) (omega arith)) ∙ before_one log

kept_place : (r : Reading) (v : Value) (p : ℕ) (b : Bool) → KeptAt p b ≡ became r v → p ≡ r.place + 1
kept_place r v p b h = go (is_kept r v) h
  where
    go : (c : Bool) → KeptAt p b ≡ (if c then KeptAt (r.place + 1) (has_effect r v.what) else IsSkipped) → p ≡ r.place + 1
    go true q = cc
    go false q = absurd (cc q)

-- the time at which it was welcomed
entered_in : (p : Past) (i : Inc) (w : Welcome) → entered (life_in p i) ≡ Some w → (q : Past) × IsPast (Does i (Enters w) ∷ q) p
entered_in [] i w h = absurd (some_none w (sym h))
entered_in (Writes n x ∷ p) i w h = let r = entered_in p i w h in (r.0, inr r.1)
entered_in (Halts n ∷ p) i w h = let r = entered_in p i w h in (r.0, inr r.1)
entered_in (Does j d ∷ p) i w h = go (inc_eq j i) refl h (entered_in p i w)
  where
    by : (x : Did) → d ≡ x → j ≡ i → entered (x ∷ life_in p i) ≡ Some w → (entered (life_in p i) ≡ Some w → (q : Past) × IsPast (Does i (Enters w) ∷ q) p) → (q : Past) × IsPast (Does i (Enters w) ∷ q) (Does j d ∷ p)
    by (Enters u) c a k f = (p, inl (ap (λ y. Does y (Enters w) ∷ p) (sym a) ∙ (ap (λ y. Does j (Enters y) ∷ p) (sym (some_is k)) ∙ ap (λ y. Does j y ∷ p) (sym c))))
    by (Took e) c a k f = let r = f k in (r.0, inr r.1)
    by (Skips s v) c a k f = let r = f k in (r.0, inr r.1)
    by (Restores g cs) c a k f = let r = f k in (r.0, inr r.1)
    by Founds c a k f = let r = f k in (r.0, inr r.1)
    by (Starts x) c a k f = let r = f k in (r.0, inr r.1)
    by (Is s x) c a k f = let r = f k in (r.0, inr r.1)
    by (Made v h) c a k f = let r = f k in (r.0, inr r.1)
    by (Done n) c a k f = let r = f k in (r.0, inr r.1)
    by (Committed g) c a k f = let r = f k in (r.0, inr r.1)
    by (Gave n m) c a k f = let r = f k in (r.0, inr r.1)
    by (Answered s x) c a k f = let r = f k in (r.0, inr r.1)
    by (Begun s x y) c a k f = let r = f k in (r.0, inr r.1)
    by (Changed s y) c a k f = let r = f k in (r.0, inr r.1)
    by (Replied r) c a k f = let r = f k in (r.0, inr r.1)
    by (Called s v y) c a k f = let r = f k in (r.0, inr r.1)
    by (AsksCommit s y) c a k f = let r = f k in (r.0, inr r.1)
    by (Ends s) c a k f = let r = f k in (r.0, inr r.1)
    by AskFails c a k f = let r = f k in (r.0, inr r.1)
    by (Came (Hears m)) c a k f = let r = f k in (r.0, inr r.1)
    by (Came Ticks) c a k f = let r = f k in (r.0, inr r.1)
    by (Came (Works x y)) c a k f = let r = f k in (r.0, inr r.1)
    by (Came (Calls x y)) c a k f = let r = f k in (r.0, inr r.1)
    by (Came (Operates x)) c a k f = let r = f k in (r.0, inr r.1)

    go : (b : Bool) → inc_eq j i ≡ b → entered (elim b [ true ↦ d ∷ life_in p i | false ↦ life_in p i ]) ≡ Some w → (entered (life_in p i) ≡ Some w → (q : Past) × IsPast (Does i (Enters w) ∷ q) p) → (q : Past) × IsPast (Does i (Enters w) ∷ q) (Does j d ∷ p)
    go true c k f = by d refl (inc_is j i c) k f
    go false c k f = let r = f k in (r.0, inr r.1)

-- ---- what came to a joiner

-- its Welcome shows what the history of its sender was right after the joiner's Add
pub record WelcomeFrom (t : Setup) (log : List Value) (q : Past) (u : Welcome) : Type 0 where
  pub who : Inc
  pub before : Past
  pub add : Entry
  pub earlier : IsPast (Does who (Took add) ∷ before) q
  pub node : Node
  pub turns : Turns
  pub shows : u ≡ welcome_of node turns (shown (view t (Took add ∷ life_in before who)))
  pub slot : add.slot ≡ u.slot
  pub place : u.place ≡ (reading_of t (before_slot log (suc u.slot))).place
  pub members : map {A = WelcomeMember} (λ y. record { inc = y.joiner.inc; last = y.last }) u.members ≡ (reading_of t (before_slot log (suc u.slot))).members

-- and so does its Give, of the parts that were open
pub record GiveFrom (t : Setup) (q : Past) (i : Inc) (g : Give) : Type 0 where
  pub giver : Inc
  pub before : Past
  pub add : Entry
  pub earlier : IsPast (Does giver (Took add) ∷ before) q
  pub parts : g.parts ≡ all_parts (Took add ∷ life_in before giver) (seated (view t (Took add ∷ life_in before giver)).seats)
  pub welcome : Welcome
  pub entered : entered (life_in q i) ≡ Some welcome
  pub place : add.place ≡ welcome.place
  pub ungiven : has_give (life_in q i) ≡ false

module _ (t : Setup) (good : IsSetup t) (log : List Value) (past : Past) (done : AllDid (IsDone t) past) (follows : AllDid (Steps t log) past)
    (welcome : (q : Past) (i : Inc) (u : Welcome) → IsPast (Does i (Enters u) ∷ q) past → WelcomeFrom t log q u)
    (give : (q : Past) (i : Inc) (g : Give) (cs : List Cert) → IsPast (Does i (Restores g cs) ∷ q) past → GiveFrom t q i g) where
  here : (i : Inc) (d : Did) (p : Past) → life_in (Does i d ∷ p) i ≡ d ∷ life_in p i
  here i d p = ap (λ b. elim b [ true ↦ d ∷ life_in p i | false ↦ life_in p i ]) (inc_same i)

  done_here : (p : Past) (i : Inc) (d : Did) → IsPast (Does i d ∷ p) past → IsDone t p i d
  done_here p i d k = done_at (IsDone t) past p i d done k

  shape_here : (p : Past) (i j : Inc) (d : Did) → IsPast (Does j d ∷ p) past → Shape t i (life_in p i)
  shape_here p i j d k = shapes t p (did_past (IsDone t) past (Does j d ∷ p) done k).1 i

  -- one that takes slots has a view, and is ready
  pub taker : (p : Past) (i : Inc) (d : Did) → IsPast (Does i d ∷ p) past → takes_slots (life_in p i) ≡ true → 1 < length (life_in p i) → Viewed t i (life_in p i) × IsReady t i (life_in p i)
  taker p i d k ready begun = elim (cases_Bool (is_founder t i)) [
    | inl f ↦ (inl (f, omega (arith, begun)), inl f)
    | inr f ↦ (let r = takes_after t i (life_in p i) (shape_here p i i d k) ready f in (inr (r.0, r.1), inr r.2))
  ]

  -- ---- one thing more

  module _ (p : Past) (ih : (q : Past) → IsPast q p → (i : Inc) → Viewed t i (life_in q i) → AgreesAt t log q i) (j : Inc) where
    abbrev l : Life
    l = life_in p j

    took_one : (e : Entry) → IsPast (Does j (Took e) ∷ p) past → AgreesWith t j (Took e ∷ life_in p j) (before_slot log (suc e.slot))
    took_one e k = subst (λ z. AgreesWith t j (Took e ∷ life_in p j) z) (sym longer) (subst (λ y. AgreesWith t j (Took y ∷ life_in p j) (e.value ∷ before_slot log e.slot)) (sym f.is_it) (took_agrees t j (life_in p j) (before_slot log e.slot) e.value f.place f.effect f.kept a v.1 e.slot))
      where
        f : SlotTaken t log p j e
        f = done_at (Steps t log) past p j (Took e) follows k

        h : IsDone t p j (Took e)
        h = done_here p j (Took e) k

        v : Viewed t j (life_in p j) × IsReady t j (life_in p j)
        v = taker p j (Took e) k h.1.1 (h.0).begun

        a : AgreesWith t j (life_in p j) (before_slot log e.slot)
        a = subst (λ s. AgreesWith t j (life_in p j) (before_slot log s)) (sym f.next) (ih p (past_self p) j v.0)

        longer : before_slot log (suc e.slot) ≡ e.value ∷ before_slot log e.slot
        longer = ap (λ s. before_slot log (suc s)) f.next ∙ (before_next log (last_slot (life_in p j)) e.value (ap (λ s. value_at log s) (sym f.next) ∙ f.value) ∙ ap (λ s. e.value ∷ before_slot log s) (sym f.next))

    skipped_one : (s : ℕ) (u : Value) → IsPast (Does j (Skips s u) ∷ p) past → AgreesWith t j (Skips s u ∷ life_in p j) (before_slot log (suc s))
    skipped_one s u k = subst (λ z. AgreesWith t j (Skips s u ∷ life_in p j) z) (sym longer) (skipped_agrees t j (life_in p j) (before_slot log s) s u f.skipped a)
      where
        f : SkippedAs t log p j s u
        f = done_at (Steps t log) past p j (Skips s u) follows k

        h : IsDone t p j (Skips s u)
        h = done_here p j (Skips s u) k

        v : Viewed t j (life_in p j) × IsReady t j (life_in p j)
        v = taker p j (Skips s u) k h.1.1 (h.0).begun

        a : AgreesWith t j (life_in p j) (before_slot log s)
        a = subst (λ s. AgreesWith t j (life_in p j) (before_slot log s)) (sym f.next) (ih p (past_self p) j v.0)

        longer : before_slot log (suc s) ≡ u ∷ before_slot log s
        longer = ap (λ s. before_slot log (suc s)) f.next ∙ (before_next log (last_slot (life_in p j)) u (ap (λ s. value_at log s) (sym f.next) ∙ f.value) ∙ ap (λ s. u ∷ before_slot log s) (sym f.next))

    -- what a sender had right after an Add
    sender : (who : Inc) (before : Past) (add : Entry) → IsPast (Does who (Took add) ∷ before) p → IsPast (Does who (Took add) ∷ before) past → AgreesWith t who (Took add ∷ life_in before who) (before_slot log (suc add.slot)) × IsReady t who (Took add ∷ life_in before who)
    sender who before add k z = (subst (λ y. AgreesWith t who y (before_slot log (suc (last_slot y)))) (here who (Took add) before) (ih (Does who (Took add) ∷ before) k who (viewed v.0)), ready v.1)
      where
        h : IsDone t before who (Took add)
        h = done_here before who (Took add) z

        v : Viewed t who (life_in before who) × IsReady t who (life_in before who)
        v = taker before who (Took add) z h.1.1 (h.0).begun

        viewed : Viewed t who (life_in before who) → Viewed t who (life_in (Does who (Took add) ∷ before) who)
        viewed (inl x) = inl (x.0, subst (λ y. 0 < length y) (sym (here who (Took add) before)) (omega arith))
        viewed (inr x) = inr (x.0, ap entered (here who (Took add) before) ∙ x.1)

        ready : IsReady t who (life_in before who) → IsReady t who (Took add ∷ life_in before who)
        ready (inl x) = inl x
        ready (inr x) = inr x

    -- (what is past of p is past of all)
    module _ (wider : (q : Past) → IsPast q p → IsPast q past) where
      entered_one : (u : Welcome) → IsPast (Does j (Enters u) ∷ p) past → AgreesWith t j (Enters u ∷ life_in p j) (before_slot log (suc u.slot))
      entered_one u k = record { view = same_view; place = f.place; fresh = λ o h. none o; parts = λ r o h. absurd (unready r) }
        where
          f : WelcomeFrom t log p u
          f = welcome p j u k

          h : IsDone t p j (Enters u)
          h = done_here p j (Enters u) k

          from : AgreesWith t f.who (Took f.add ∷ life_in f.before f.who) (before_slot log (suc u.slot))
          from = subst (λ s. AgreesWith t f.who (Took f.add ∷ life_in f.before f.who) (before_slot log (suc s))) f.slot (sender f.who f.before f.add f.earlier (wider _ f.earlier)).0

          seats : seated (view t (Took f.add ∷ life_in f.before f.who)).seats ≡ incs (reading_of t (before_slot log (suc u.slot))).members
          seats = ap (λ y. seated y.seats) from.view ∙ listed_seats t (before_slot log (suc u.slot))

          same_view : view t (Enters u ∷ life_in p j) ≡ view t (listed t (before_slot log (suc u.slot)))
          same_view = welcome_view f.node f.turns (view t (Took f.add ∷ life_in f.before f.who)) u f.shows (ap incs f.members ∙ sym seats) (subst (λ y. Distinct y) (sym seats) (members_distinct t good (before_slot log (suc u.slot)))) ∙ from.view

          shape : Shape t j (life_in p j)
          shape = shape_here p j j (Enters u) k

          none : (o : Inc) → open_parts (life_in p j) o ≡ None
          none o = waits_none (life_in p j) o (enters_waits t p j u h shape).slots (enters_waits t p j u h shape).give

          off : is_offline (state (life_in p j)) ≡ true
          off = subst (λ y. is_offline (state y) ≡ true) (sym (h.1.1).heard) (h.1.1).offline

          unready : IsReady t j (Enters u ∷ life_in p j) → ⊥
          unready (inl x) = absurd (false≢true (sym ((shape.founder x).begun (h.0).begun) ∙ off))
          unready (inr x) = absurd (false≢true (sym (enters_waits t p j u h shape).give ∙ x))

      -- the slot of its Add, by the place
      add_slot : (g : Give) (cs : List Cert) → (k : IsPast (Does j (Restores g cs) ∷ p) past) → AgreesWith t j (life_in p j) (before_slot log (suc (last_slot (life_in p j)))) → (f : GiveFrom t p j g) → f.add.slot ≡ last_slot (life_in p j)
      add_slot g cs k a f = slot_is
        where
          q : (q : Past) × IsPast (Does j (Enters f.welcome) ∷ q) p
          q = entered_in p j f.welcome f.entered

          w : WelcomeFrom t log q.0 f.welcome
          w = welcome q.0 j f.welcome (wider _ q.1)

          -- (the Welcome came before)
          earlier : IsPast (Does w.who (Took w.add) ∷ w.before) p
          earlier = past_of (Does j (Enters f.welcome) ∷ q.0) (Does w.who (Took w.add) ∷ w.before) p q.1 (inr w.earlier)

          x : SlotTaken t log w.before w.who w.add
          x = done_at (Steps t log) past w.before w.who (Took w.add) follows (wider _ earlier)

          y : SlotTaken t log f.before f.giver f.add
          y = done_at (Steps t log) past f.before f.giver (Took f.add) follows (wider _ f.earlier)

          joiner : is_founder t j ≡ false
          joiner = elim (cases_Bool (is_founder t j)) [ inl z ↦ absurd (some_none f.welcome (sym f.entered ∙ ((shape_here p j j (Restores g cs) k).founder z).entered)) | inr z ↦ z ]

          asks : last_slot (life_in p j) ≡ f.welcome.slot
          asks = (((shape_here p j j (Restores g cs) k).joiner joiner).ungiven f.welcome f.entered f.ungiven).slot

          -- the places before and after both Adds
          before_give : f.add.place ≡ (reading_of t (before_slot log f.add.slot)).place + 1
          before_give = ap (λ z. z.place) y.is_it ∙ kept_place (reading_of t (before_slot log f.add.slot)) f.add.value y.place y.effect y.kept

          after_give : f.add.place ≡ (reading_of t (before_slot log (suc f.add.slot))).place
          after_give = (sender f.giver f.before f.add f.earlier (wider _ f.earlier)).0.place

          before_welcome : w.add.place ≡ (reading_of t (before_slot log f.welcome.slot)).place + 1
          before_welcome = ap (λ z. z.place) x.is_it ∙ (kept_place (reading_of t (before_slot log w.add.slot)) w.add.value x.place x.effect x.kept ∙ ap (λ s. (reading_of t (before_slot log s)).place + 1) w.slot)

          after_welcome : w.add.place ≡ (reading_of t (before_slot log (suc f.welcome.slot))).place
          after_welcome = (sender w.who w.before w.add earlier (wider _ earlier)).0.place ∙ ap (λ s. (reading_of t (before_slot log (suc s))).place) w.slot

          same : f.add.place ≡ w.add.place
          same = f.place ∙ (w.place ∙ sym after_welcome)

          slot_is : f.add.slot ≡ last_slot (life_in p j)
          slot_is = elim (cases_Bool (ltb f.add.slot f.welcome.slot)) [
            | inl z ↦ (let lt = leb-true (suc f.add.slot) f.welcome.slot z in let up = places_rise t log (suc f.add.slot) f.welcome.slot (omega (arith, lt)) in
                absurd (omega (arith, up, same, after_give, before_welcome)))
            | inr z ↦ elim (cases_Bool (ltb f.welcome.slot f.add.slot)) [
              | inl r ↦ (let lt = leb-true (suc f.welcome.slot) f.add.slot r in let up = places_rise t log (suc f.welcome.slot) f.add.slot (omega (arith, lt)) in
                  absurd (omega (arith, up, same, before_give, after_welcome)))
              | inr r ↦ (let a1 = leb-false (suc f.add.slot) f.welcome.slot z in let a2 = leb-false (suc f.welcome.slot) f.add.slot r in omega (arith, a1, a2, asks))
            ]
          ]

      restored_one : (g : Give) (cs : List Cert) → IsPast (Does j (Restores g cs) ∷ p) past → AgreesWith t j (Restores g cs ∷ life_in p j) (before_slot log (suc (last_slot (life_in p j))))
      restored_one g cs k = record { view = a.view; place = a.place; fresh = fresh; parts = λ r o h. parts o h }
        where
          f : GiveFrom t p j g
          f = give p j g cs k

          a : AgreesWith t j (life_in p j) (before_slot log (suc (last_slot (life_in p j))))
          a = ih p (past_self p) j (inr (f.welcome, f.entered))

          from : AgreesWith t f.giver (Took f.add ∷ life_in f.before f.giver) (before_slot log (suc (last_slot (life_in p j)))) × IsReady t f.giver (Took f.add ∷ life_in f.before f.giver)
          from = let z = sender f.giver f.before f.add f.earlier (wider _ f.earlier) in (subst (λ s. AgreesWith t f.giver (Took f.add ∷ life_in f.before f.giver) (before_slot log (suc s))) (add_slot g cs k a f) z.0, z.1)

          seats : seated (view t (Took f.add ∷ life_in f.before f.giver)).seats ≡ incs (reading_of t (before_slot log (suc (last_slot (life_in p j))))).members
          seats = ap (λ y. seated y.seats) from.0.view ∙ listed_seats t (before_slot log (suc (last_slot (life_in p j))))

          fresh : (o : Inc) → has_inc (reading_of t (before_slot log (suc (last_slot (life_in p j))))).ever o ≡ false → open_parts (Restores g cs ∷ life_in p j) o ≡ None
          fresh o h = ap (λ y. parts_of y o) f.parts ∙ parts_missing (Took f.add ∷ life_in f.before f.giver) (seated (view t (Took f.add ∷ life_in f.before f.giver)).seats) o (ap (λ y. has_inc y o) seats ∙ no_member o h)
            where
              no_member : (o : Inc) → has_inc (reading_of t (before_slot log (suc (last_slot (life_in p j))))).ever o ≡ false → is_member_of (reading_of t (before_slot log (suc (last_slot (life_in p j))))) o ≡ false
              no_member o h = elim (cases_Bool (is_member_of (reading_of t (before_slot log (suc (last_slot (life_in p j))))) o)) [ inl z ↦ absurd (false≢true (sym h ∙ members_were t (before_slot log (suc (last_slot (life_in p j)))) o z)) | inr z ↦ z ]

          parts : (o : Inc) → is_member_of (reading_of t (before_slot log (suc (last_slot (life_in p j))))) o ≡ true → open_parts (Restores g cs ∷ life_in p j) o ≡ open_parts (listed t (before_slot log (suc (last_slot (life_in p j))))) o
          parts o h = ap (λ y. parts_of y o) f.parts ∙ (parts_given (Took f.add ∷ life_in f.before f.giver) (seated (view t (Took f.add ∷ life_in f.before f.giver)).seats) o (ap (λ y. has_inc y o) seats ∙ h) ∙ from.0.parts from.1 o h)

      -- ---- the beginnings, and all else

      founds_one : IsPast (Does j Founds ∷ p) past → AgreesWith t j (Founds ∷ life_in p j) (before_slot log (suc (last_slot (life_in p j))))
      founds_one k = subst (λ y. AgreesWith t j (Founds ∷ y) (before_slot log (suc (last_slot y)))) (sym (done_here p j Founds k).1) (subst (λ y. AgreesWith t j (Founds ∷ []) y) (sym (before_one log)) (record { view = refl; place = refl; fresh = λ o h. refl; parts = λ r o h. refl }))

      still_viewed : (d : Did) → IsPast (Does j d ∷ p) past → Viewed t j (d ∷ life_in p j) → 1 < length (life_in p j) → entered (d ∷ life_in p j) ≡ entered (life_in p j) → Viewed t j (life_in p j)
      still_viewed d k (inl z) b e = inl (z.0, omega (arith, b))
      still_viewed d k (inr z) b e = inr (z.0, sym e ∙ z.1)

      one_agrees : (d : Did) → IsPast (Does j d ∷ p) past → Viewed t j (d ∷ life_in p j) → AgreesWith t j (d ∷ life_in p j) (before_slot log (suc (last_slot (d ∷ life_in p j))))
      one_agrees (Took e) k v = took_one e k
      one_agrees (Skips s u) k v = skipped_one s u k
      one_agrees (Enters u) k v = entered_one u k
      one_agrees (Restores g cs) k v = restored_one g cs k
      one_agrees Founds k v = founds_one k
      one_agrees (Starts x) k (inl v) = absurd (false≢true (sym (done_here p j (Starts x) k).2 ∙ v.0))
      one_agrees (Starts x) k (inr v) = absurd (some_none v.0 (sym v.1 ∙ ap entered (done_here p j (Starts x) k).1))
      one_agrees (Is s x) k v = let a = ih p (past_self p) j (still v) in record { view = a.view; place = a.place; fresh = a.fresh; parts = a.parts }
        where
          not_empty : IsDone t p j (Is s x) → 0 < length (life_in p j)
          not_empty (inl z) = elim z.1 [ inl y ↦ subst (λ y. 0 < length y) (sym y.0) (omega arith) | inr y ↦ subst (λ y. 0 < length y) (sym y.1) (omega arith) ]
          not_empty (inr z) = omega (arith, (z.0).begun)

          still : Viewed t j (Is s x ∷ life_in p j) → Viewed t j (life_in p j)
          still (inl z) = inl (z.0, not_empty (done_here p j (Is s x) k))
          still (inr z) = inr z
      one_agrees (Came (Hears m)) k v = let a = ih p (past_self p) j (go v) in record { view = a.view; place = a.place; fresh = a.fresh; parts = a.parts }
        where
          go : Viewed t j (Came (Hears m) ∷ life_in p j) → Viewed t j (life_in p j)
          go (inl z) = inl (z.0, omega (arith, ((done_here p j (Came (Hears m)) k).0).begun))
          go (inr z) = inr z
      one_agrees (Made y h) k v = let a = ih p (past_self p) j (still_viewed (Made y h) k v ((done_here p j (Made y h) k).0).begun refl) in record { view = a.view; place = a.place; fresh = a.fresh; parts = a.parts }
      one_agrees (Done n) k v = let a = ih p (past_self p) j (still_viewed (Done n) k v ((done_here p j (Done n) k).0).begun refl) in record { view = a.view; place = a.place; fresh = a.fresh; parts = a.parts }
      one_agrees (Committed y) k v = let a = ih p (past_self p) j (still_viewed (Committed y) k v ((done_here p j (Committed y) k).0).begun refl) in record { view = a.view; place = a.place; fresh = a.fresh; parts = a.parts }
      one_agrees (Gave n m) k v = let a = ih p (past_self p) j (still_viewed (Gave n m) k v ((done_here p j (Gave n m) k).0).begun refl) in record { view = a.view; place = a.place; fresh = a.fresh; parts = a.parts }
      one_agrees (Answered s x) k v = let a = ih p (past_self p) j (still_viewed (Answered s x) k v ((done_here p j (Answered s x) k).0).begun refl) in record { view = a.view; place = a.place; fresh = a.fresh; parts = a.parts }
      one_agrees (Begun s x y) k v = let a = ih p (past_self p) j (still_viewed (Begun s x y) k v ((done_here p j (Begun s x y) k).0).begun refl) in record { view = a.view; place = a.place; fresh = a.fresh; parts = a.parts }
      one_agrees (Changed s c) k v = let a = ih p (past_self p) j (still_viewed (Changed s c) k v ((done_here p j (Changed s c) k).0).begun refl) in record { view = a.view; place = a.place; fresh = a.fresh; parts = a.parts }
      one_agrees (Replied r) k v = let a = ih p (past_self p) j (still_viewed (Replied r) k v ((done_here p j (Replied r) k).0).begun refl) in record { view = a.view; place = a.place; fresh = a.fresh; parts = a.parts }
      one_agrees (Called s y w) k v = let a = ih p (past_self p) j (still_viewed (Called s y w) k v ((done_here p j (Called s y w) k).0).begun refl) in record { view = a.view; place = a.place; fresh = a.fresh; parts = a.parts }
      one_agrees (AsksCommit s y) k v = let a = ih p (past_self p) j (still_viewed (AsksCommit s y) k v ((done_here p j (AsksCommit s y) k).0).begun refl) in record { view = a.view; place = a.place; fresh = a.fresh; parts = a.parts }
      one_agrees (Ends s) k v = let a = ih p (past_self p) j (still_viewed (Ends s) k v ((done_here p j (Ends s) k).0).begun refl) in record { view = a.view; place = a.place; fresh = a.fresh; parts = a.parts }
      one_agrees AskFails k v = let a = ih p (past_self p) j (still_viewed AskFails k v ((done_here p j AskFails k).0).begun refl) in record { view = a.view; place = a.place; fresh = a.fresh; parts = a.parts }
      one_agrees (Came Ticks) k v = let a = ih p (past_self p) j (still_viewed (Came Ticks) k v ((done_here p j (Came Ticks) k).0).begun refl) in record { view = a.view; place = a.place; fresh = a.fresh; parts = a.parts }
      one_agrees (Came (Works x y)) k v = let a = ih p (past_self p) j (still_viewed (Came (Works x y)) k v ((done_here p j (Came (Works x y)) k).0).begun refl) in record { view = a.view; place = a.place; fresh = a.fresh; parts = a.parts }
      one_agrees (Came (Calls x y)) k v = let a = ih p (past_self p) j (still_viewed (Came (Calls x y)) k v ((done_here p j (Came (Calls x y)) k).0).begun refl) in record { view = a.view; place = a.place; fresh = a.fresh; parts = a.parts }
      one_agrees (Came (Operates x)) k v = let a = ih p (past_self p) j (still_viewed (Came (Operates x)) k v ((done_here p j (Came (Operates x)) k).0).begun refl) in record { view = a.view; place = a.place; fresh = a.fresh; parts = a.parts }

  pub all_agree : (p : Past) → ((q : Past) → IsPast q p → IsPast q past) → (q : Past) → IsPast q p → (i : Inc) → Viewed t i (life_in q i) → AgreesAt t log q i
  all_agree [] wider q k i v = subst (λ y. Viewed t i (life_in y i) → AgreesAt t log y i) (sym k) none v
    where
      none : Viewed t i [] → AgreesAt t log [] i
      none (inl z) = absurd (omega (arith, z.1))
      none (inr z) = absurd (some_none z.0 (sym z.1))
  all_agree (x ∷ p) wider q (inr k) i v = all_agree p (λ y z. wider y (inr z)) q k i v
  all_agree (Writes n x ∷ p) wider q (inl e) i v = subst (λ y. Viewed t i (life_in y i) → AgreesAt t log y i) (sym e) (λ z. all_agree p (λ y r. wider y (inr r)) p (past_self p) i z) v
  all_agree (Halts n ∷ p) wider q (inl e) i v = subst (λ y. Viewed t i (life_in y i) → AgreesAt t log y i) (sym e) (λ z. all_agree p (λ y r. wider y (inr r)) p (past_self p) i z) v
  all_agree (Does j d ∷ p) wider q (inl e) i v = subst (λ y. Viewed t i (life_in y i) → AgreesAt t log y i) (sym e) (go (inc_eq j i) refl (λ y z. all_agree p (λ y r. wider y (inr r)) y z)) v
    where
      go : (b : Bool) → inc_eq j i ≡ b → ((q : Past) → IsPast q p → (i : Inc) → Viewed t i (life_in q i) → AgreesAt t log q i) → Viewed t i (elim b [ true ↦ d ∷ life_in p i | false ↦ life_in p i ]) → AgreesWith t i (elim b [ true ↦ d ∷ life_in p i | false ↦ life_in p i ]) (before_slot log (suc (last_slot (elim b [ true ↦ d ∷ life_in p i | false ↦ life_in p i ]))))
      go true c ih z = one_agrees p ih i (λ y r. wider y (inr r)) d (subst (λ y. IsPast (Does y d ∷ p) past) (inc_is j i c) (wider (Does j d ∷ p) (inl refl))) z
      go false c ih z = ih p (past_self p) i z
