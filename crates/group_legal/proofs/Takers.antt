-- In a run of the group, each history that takes slots takes the one list: that of a joiner from what it was given on.
use Rattle.std.proofs.Common.{◌≡◌, inl, inr, ℕ, suc, ◌≤◌, ◌<◌, Bool, true, false, Option, Some, None, List, [], ◌∷◌, refl, sym, ap, subst, ◌∙◌, length, arith}
use Rattle.std.specs.Prelude.{filter, nat_le}
use Rattle.std.proofs.lemmas.Bool.{false≢true, cases_Bool}
use Rattle.gr_ids.specs.declared.names.Inc.{Inc}
use Rattle.gr_ids.specs.declared.levels.MemberState.{MemberState}
use Rattle.gr_ids.specs.Names.{inc_eq}
use Rattle.gtid_sets.specs.Sets.{Gtids}
use Rattle.slot_values.specs.declared.value.Value.{Value}
use Rattle.slot_values.specs.declared.value.What.{What}
use Rattle.slot_values.specs.declared.value.What.TheVariants.{Noop, Add, Remove, Body as Says}
use Rattle.txn_forms.specs.declared.body.Body.{Body}
use Rattle.txn_forms.specs.declared.body.Body.TheVariants.{Txn as Writes}
use Rattle.txn_forms.specs.declared.body.Txn.{Txn}
use Rattle.paxos_forms.specs.declared.welcome.Welcome.{Welcome}
use Rattle.group_rules.specs.Names.{Give}
use Rattle.group_rules.specs.declared.marks.Effect.{Effect}
use Rattle.group_rules.specs.Events.{Did, Founds, Starts, Came, Made, Took, Skips, Done, Committed, Is, Gave, Answered, Begun, Changed, Replied, Called, AsksCommit, Ends, Enters, Restores, AskFails, Hears, Life, Setup, Entry, Cert}
use Rattle.group_rules.specs.Life.{state, is_offline, executed, view, taken, entry_at, entered, has_give}
use Rattle.group_rules.specs.Parts.{open_parts}
use Rattle.group_rules.specs.Rows.{known}
use Rattle.group_rules.specs.Taking.{takes_slots}
use Rattle.group_rules.specs.declared.marks.Cause.{Cause}
use Rattle.group_rules.specs.View.{View}
use Rattle.group_rules.specs.Recovery.{give_of}
use Rattle.group_rules.specs.OneList.{listed, reading_of, before_slot}
use Rattle.group_rules.specs.Legal.{IsPast, last_slot, SameEntry}
use Rattle.group_rules.specs.World.{Past, Does, Writes as WritesOffline, Halts, life_in}
use Rattle.group_bridge.specs.Left.{IsEntered}
use Rattle.group_runs.specs.Runs.{is_founder, AllDid, ByRules, IsFirst, IsDone}
use Rattle.group_order.specs.OneLog.{IsReady, Viewed, TakenAs, Follows, GivenBy, AgreesAt, LogOver}
use Rattle.node_rules.proofs.Incs.{inc_is, inc_same}
use Rattle.group_order.proofs.Nexts.{past_self, past_of, did_past, done_at}
use Rattle.group_order.proofs.Shapes.{Shape, shapes, one_more, takes_after, not_entering, Asks}
use Rattle.group_order.proofs.Spans.{enters_waits}
use Rattle.group_laws.specs.Entries as law
use Rattle.group_laws.specs.Lists as listing
use Rattle.group_laws.specs.Lawful.{upto}
use Rattle.group_laws.specs.Life as lives
use Rattle.group_laws.specs.Primary as primary
use Rattle.group_laws.specs.World.{IsKeptList}
use Rattle.group_laws.proofs.Acks.{upto_is_past, values_past}
use Rattle.group_lives.specs.Lives.{does_entry, placed, life_of}
use Rattle.group_lives.specs.Given.{GivenAs}
use Rattle.group_lives.specs.Sound.{IsEffect, IsTaking, HasToldSets, AddsNew}
use Rattle.group_lives.proofs.Taking.{skip_answer, skip_state, skip_made, views_agree}
use Rattle.group_legal.specs.Bases.{list_of, given_to, base_in, TakesOf, JudgesAs}
use Rattle.group_legal.proofs.EntryEffects.{entry_takes, next_place}
use Rattle.group_legal.proofs.Scanned.{takes}
use Rattle.group_legal.proofs.Newcomers.{adds_new}
use Rattle.group_legal.proofs.Numbered.{kept_list}
use Rattle.group_legal.proofs.Prefix.{upto_zero, StandsAt, entry_stands, list_before}
use Rattle.group_legal.proofs.Told.{Spelled, told_sets}

-- ---- parts of the list

pub adds_past : (t : Setup) (p k : List law.Value) → listing.IsPast p k → AddsNew t k → AddsNew t p
adds_past t p [] h a = subst (AddsNew t) (sym h) tt
adds_past t p (v ∷ k) (inl e) a = subst (AddsNew t) (sym e) a
adds_past t p (v ∷ k) (inr h) a = adds_past t p k h a.1

pub kept_past : (t : Setup) (p k : List law.Value) → listing.IsPast p k → IsKeptList t k → IsKeptList t p
kept_past t p [] h a = subst (IsKeptList t) (sym h) tt
kept_past t p (v ∷ k) (inl e) a = subst (IsKeptList t) (sym e) a
kept_past t p (v ∷ k) (inr h) a = kept_past t p k h a.1

-- what a Give of a history tells, as the laws of lives have it
abbrev pub GiveTells : Setup → Type 0
GiveTells t = (base : List law.Placed) (l : Life) (cs : List Cert) (v : ℕ) (e : Gtids) → IsTaking t base l → HasToldSets l → AddsNew t (lives.taken (life_of base l)) → IsKeptList t (lives.taken (life_of base l))
    → GivenAs t (lives.marked (life_of base l)) (give_of t l cs v e) (view t l) (taken l)

-- ---- two entries of one value

-- but for the verdict
same_value : (t : Setup) (v : View) (x e : Entry) → SameEntry x e → IsEffect t v e.value.what e.holds e.effect → (placed x).value ≡ (placed e).value
same_value t v x e s f =
    let body : does_entry x.value.what x.effect x.holds ≡ does_entry e.value.what e.effect e.holds =
    ap (λ (u : Value). does_entry u.what x.effect x.holds) s.value ∙ ap (λ (b : Option Body). does_entry e.value.what x.effect b) s.holds ∙ by e.value.what e.holds refl f in
    λ k. record { origin = (s.value k).id.origin; number = (s.value k).id.number; body = body k }
  where
    by_effect : (w : What) (b : Option Body) → e.holds ≡ b → ((y : Txn) → b ≡ Some (Writes y) → ⊥) → does_entry w x.effect b ≡ does_entry w e.effect b
    by_effect w b q n = ap (λ (z : Effect). does_entry w z b) (s.effect (λ y h. n y (sym q ∙ h)))

    by : (w : What) (b : Option Body) → e.holds ≡ b → IsEffect t v w b e.effect → does_entry w x.effect b ≡ does_entry w e.effect b
    by (Says y) b q h = refl
    by Noop b q h = refl
    by (Add j) (Some b) q h = absurd h
    by (Remove i) (Some b) q h = absurd h
    by (Add j) None q h = by_effect (Add j) None q (λ y z. absurd (cc z))
    by (Remove i) None q h = by_effect (Remove i) None q (λ y z. absurd (cc z))

-- ---- an incarnation is welcomed once

enters_new : (t : Setup) (p : Past) (i : Inc) (u : Welcome) → IsDone t p i (Enters u) → Shape t i (life_in p i) → entered (life_in p i) ≡ None
enters_new t p i u h s = elim (cases_Bool (is_founder t i)) [
  | inl f ↦ (s.founder f).entered
  | inr f ↦ elim ((s.joiner f).offline off) [ inl e ↦ e | inr z ↦ absurd (not_entering i (life_in p i) h.0.settled z) ]
]
  where
    n : IsEntered i (life_in p i) u
    n = h.1.1

    off : is_offline (state (life_in p i)) ≡ true
    off = subst (λ l. is_offline (state l) ≡ true) (sym n.heard) n.offline

enters_keep : (d : Did) (l : Life) (u : Welcome) → ((v : Welcome) → d ≡ Enters v → ⊥) → entered l ≡ Some u → entered (d ∷ l) ≡ Some u
enters_keep (Enters v) l u f h = absurd (f v refl)
enters_keep Founds l u f h = h
enters_keep (Starts x) l u f h = h
enters_keep (Came x) l u f h = h
enters_keep (Made v x) l u f h = h
enters_keep (Took e) l u f h = h
enters_keep (Skips s v) l u f h = h
enters_keep (Done n) l u f h = h
enters_keep (Committed g) l u f h = h
enters_keep (Is x c) l u f h = h
enters_keep (Gave n m) l u f h = h
enters_keep (Answered s a) l u f h = h
enters_keep (Begun s a b) l u f h = h
enters_keep (Changed s c) l u f h = h
enters_keep (Replied r) l u f h = h
enters_keep (Called s v b) l u f h = h
enters_keep (AsksCommit s y) l u f h = h
enters_keep (Ends s) l u f h = h
enters_keep (Restores g cs) l u f h = h
enters_keep AskFails l u f h = h

pub stays_entered : (t : Setup) (p : Past) → AllDid (IsDone t) p → (q : Past) → IsPast q p → (i : Inc) (u : Welcome) → entered (life_in q i) ≡ Some u → entered (life_in p i) ≡ Some u
stays_entered t [] h q k i u e = subst (λ y. entered (life_in y i) ≡ Some u) k e
stays_entered t (WritesOffline n y ∷ p) h q (inl k) i u e = subst (λ y. entered (life_in y i) ≡ Some u) k e
stays_entered t (Halts n ∷ p) h q (inl k) i u e = subst (λ y. entered (life_in y i) ≡ Some u) k e
stays_entered t (WritesOffline n y ∷ p) h q (inr k) i u e = stays_entered t p h q k i u e
stays_entered t (Halts n ∷ p) h q (inr k) i u e = stays_entered t p h q k i u e
stays_entered t (Does j d ∷ p) h q (inl k) i u e = subst (λ y. entered (life_in y i) ≡ Some u) k e
stays_entered t (Does j d ∷ p) h q (inr k) i u e = go (inc_eq j i) refl (stays_entered t p h.1 q k i u e)
  where
    go : (b : Bool) → inc_eq j i ≡ b → entered (life_in p i) ≡ Some u → entered (elim b [ true ↦ d ∷ life_in p i | false ↦ life_in p i ]) ≡ Some u
    go false z m = m
    go true z m = enters_keep d (life_in p i) u (λ v y.
        let same : j ≡ i = inc_is j i z in
        let done_v : IsDone t p i (Enters v) = subst (λ c. IsDone t p i c) y (subst (λ c. IsDone t p c d) same h.0) in
        let none : None ≡ Some u = sym (enters_new t p i v done_v (shapes t p h.1 i)) ∙ m in
        absurd (cc none)) m

-- ---- one thing more

module _ (t : Setup) (w : Past) (x : LogOver t w) (done : AllDid (IsDone t) w) (spelled : Spelled) (tells : GiveTells t) where
  abbrev list : List law.Placed
  list = list_of t x.log

  abbrev base : Inc → List law.Placed
  base i = base_in t x.log w i

  -- one that is ready takes the list, and has its verdicts
  abbrev pub Taker : Inc → Life → Type 0
  Taker i l = IsReady t i l → 0 < length l → TakesOf t x.log (base i) l

  abbrev pub Judge : Inc → Life → Type 0
  Judge i l = IsReady t i l → 0 < length l → JudgesAs t x.log (base i) l

  -- what leaves no entry changes nothing
  quiet : (i : Inc) (d : Did) (l : Life) → taken (d ∷ l) ≡ taken l → lives.marked (life_of (base i) (d ∷ l)) ≡ lives.marked (life_of (base i) l) → IsTaking t (base i) (d ∷ l) → TakesOf t x.log (base i) l → TakesOf t x.log (base i) (d ∷ l)
  quiet i d l p m k o =
      let n = o.within in
      record { taking = k; values = ap law.values m ∙ o.values ∙ ap (λ c. law.values (upto c list)) (sym p); within = omega (arith, n, p) }

  abbrev Before : Past → Type 0
  Before p = (q : Past) → IsPast q p → (i : Inc) → Taker i (life_in q i) × Judge i (life_in q i)

  module _ (p : Past) (i : Inc) (past_p : IsPast p w) (done_p : AllDid (IsDone t) p) (before : Before p) where
    abbrev l : Life
    l = life_in p i

    shape : Shape t i (life_in p i)
    shape = shapes t p done_p i

    here : IsReady t i (life_in p i) → 0 < length (life_in p i) → TakesOf t x.log (base i) (life_in p i)
    here = (before p (past_self p) i).0

    -- a founder was given nothing
    founders_base : is_founder t i ≡ true → base i ≡ []
    founders_base f = ap (given_to list) ((shapes t w done i).founder f).entered

    founds : is_founder t i ≡ true → life_in p i ≡ [] → TakesOf t x.log (base i) (Founds ∷ life_in p i)
    founds f e = subst (λ y. TakesOf t x.log (base i) (Founds ∷ y)) (sym e) (record { taking = refl; values = ap law.values (sym (upto_zero list)); within = omega arith })

    -- one that takes a slot is ready
    ready : takes_slots (life_in p i) ≡ true → IsReady t i (life_in p i)
    ready h = elim (cases_Bool (is_founder t i)) [ inl f ↦ inl f | inr f ↦ inr (takes_after t i (life_in p i) shape h f).2 ]

    viewed : takes_slots (life_in p i) ≡ true → 0 < length (life_in p i) → Viewed t i (life_in p i)
    viewed h n = elim (cases_Bool (is_founder t i)) [ inl f ↦ inl (f, n) | inr f ↦ (let r = takes_after t i (life_in p i) shape h f in inr (r.0, r.1)) ]

    -- an entry
    took : (e : Entry) → TakenAs t x.log p i e → AgreesAt t x.log p i → TakesOf t x.log (base i) (life_in p i) → TakesOf t x.log (base i) (Took e ∷ life_in p i)
    took e g a o = record { taking = ((place, effect), o.taking); values = values; within = subst (λ n. n ≤ length list) (sym place) stands.0 }
      where
        place : e.place ≡ suc (taken (life_in p i))
        place =
            ap (λ (y : Entry). y.place) g.is_it
            ∙ next_place (reading_of t (before_slot x.log e.slot)) e.value g.place g.effect g.kept
            ∙ ap (λ (n : ℕ). suc (reading_of t (before_slot x.log n)).place) g.next
            ∙ ap suc (sym a.place)

        effect : IsEffect t (view t (life_in p i)) e.value.what e.holds e.effect
        effect =
            subst (λ (y : Entry). IsEffect t (view t (life_in p i)) y.value.what y.holds y.effect) (sym g.is_it)
            (entry_takes t (life_in p i) g.effect e.value (open_parts (life_in p i) e.value.id.origin))

        y : Entry
        y = g.listed.0

        stands : StandsAt (taken (life_in p i)) y list
        stands = entry_stands t x.log (taken (life_in p i)) y (ap (entry_at (listed t x.log)) (sym place) ∙ g.listed.1)

        values : lives.taken (life_of (base i) (Took e ∷ life_in p i)) ≡ law.values (upto e.place list)
        values =
            ap (λ (v : law.Value). v ∷ lives.taken (life_of (base i) (life_in p i))) (sym (same_value t (view t (life_in p i)) y e g.listed.2 effect))
            ∙ ap (λ (k : List law.Value). (placed y).value ∷ k) o.values
            ∙ sym (ap law.values stands.1)
            ∙ ap (λ n. law.values (upto n list)) (sym place)

    -- a Give
    module _ (g : Give) (cs : List Cert) (k : IsPast (Does i (Restores g cs) ∷ p) w) where
      abbrev f : GivenBy t p i g cs
      f = x.given p i g cs k

      abbrev at : Past
      at = Does f.giver (Took f.add) ∷ f.before

      abbrev giver : Life
      giver = Took f.add ∷ life_in f.before f.giver

      giver_is : life_in at f.giver ≡ giver
      giver_is = ap (λ b. elim b [ true ↦ Took f.add ∷ life_in f.before f.giver | false ↦ life_in f.before f.giver ]) (inc_same f.giver)

      at_p : IsPast at p
      at_p = past_of f.sent at p f.sent_before f.earlier

      at_w : IsPast at w
      at_w = past_of p at w past_p at_p

      took_done : IsDone t f.before f.giver (Took f.add)
      took_done = done_at (IsDone t) w f.before f.giver (Took f.add) done at_w

      was_shape : Shape t f.giver (life_in f.before f.giver)
      was_shape = shapes t f.before (did_past (IsDone t) w at done at_w).1 f.giver

      was_ready : IsReady t f.giver giver
      was_ready = elim (cases_Bool (is_founder t f.giver)) [ inl y ↦ inl y | inr y ↦ inr (takes_after t f.giver (life_in f.before f.giver) was_shape took_done.1.1 y).2 ]

      taker : TakesOf t x.log (base f.giver) giver
      taker = subst (TakesOf t x.log (base f.giver)) giver_is ((before at at_p f.giver).0 (subst (IsReady t f.giver) (sym giver_is) was_ready) (subst (λ y. 0 < length y) (sym giver_is) (omega arith)))

      judge : JudgesAs t x.log (base f.giver) giver
      judge = subst (JudgesAs t x.log (base f.giver)) giver_is ((before at at_p f.giver).1 (subst (IsReady t f.giver) (sym giver_is) was_ready) (subst (λ y. 0 < length y) (sym giver_is) (omega arith)))

      told : HasToldSets giver
      told = subst HasToldSets giver_is (told_sets spelled t x.log at (did_past (Follows t x.log) w at x.follows at_w) f.giver)

      taken_past : listing.IsPast (lives.taken (life_of (base f.giver) giver)) (law.values list)
      taken_past = subst (λ y. listing.IsPast y (law.values list)) (sym taker.values) (values_past (upto f.add.place list) list (upto_is_past f.add.place list))

      gives : GivenAs t (lives.marked (life_of (base f.giver) giver)) g (view t giver) (taken giver)
      gives =
          subst (λ y. GivenAs t (lives.marked (life_of (base f.giver) giver)) y (view t giver) (taken giver)) (sym f.give)
          (tells (base f.giver) giver (filter (λ c. nat_le c.place f.add.place) (known (life_in f.sent f.giver))) f.add.place (executed (life_in f.asked i)) taker.taking told
          (adds_past t (lives.taken (life_of (base f.giver) giver)) (law.values list) taken_past (adds_new t [] x.log))
          (kept_past t (lives.taken (life_of (base f.giver) giver)) (law.values list) taken_past (kept_list t [] x.log).0))

      -- it is at the place of its own Add
      done_k : IsDone t p i (Restores g cs)
      done_k = done_at (IsDone t) w p i (Restores g cs) done k

      joined : is_founder t i ≡ false
      joined = elim (cases_Bool (is_founder t i)) [
        | inl y ↦ (let none : None ≡ Some f.welcome = sym (shape.founder y).entered ∙ f.entered in absurd (cc none))
        | inr y ↦ y
      ]

      waits : Asks (life_in p i) f.welcome
      waits = (shape.joiner joined).ungiven f.welcome f.entered f.ungiven

      place : taken giver ≡ taken (life_in p i)
      place = f.place ∙ sym waits.place

      base_is : lives.marked (life_of (base f.giver) giver) ≡ base i
      base_is =
          judge
          ∙ ap (λ n. upto n list) f.place
          ∙ ap (given_to list) (sym (stays_entered t w done p past_p i f.welcome f.entered))

      -- and has the view of the giver
      agrees : AgreesAt t x.log p i
      agrees = x.agrees p past_p i (inr (f.welcome, f.entered))

      abbrev its_log : List Value
      its_log = before_slot x.log (suc (last_slot (life_in p i)))

      its_list : list_of t its_log ≡ upto (taken (life_in p i)) list
      its_list = list_before t x.log (suc (last_slot (life_in p i))) ∙ ap (λ n. upto n list) (sym agrees.place)

      its_view : view t giver ≡ view t (life_in p i)
      its_view =
          sym (views_agree t (base f.giver) giver taker.taking)
          ∙ ap (primary.view t) (taker.values ∙ ap (λ n. law.values (upto n list)) place ∙ ap law.values (sym its_list))
          ∙ views_agree t [] (listed t its_log) (takes t [] its_log)
          ∙ sym agrees.view

      given : GivenAs t (base i) g (view t (life_in p i)) (taken (life_in p i))
      given = subst (λ y. y) (λ j. GivenAs t (base_is j) g (its_view j) (place j)) gives

      base_values : law.values (base i) ≡ law.values (upto (taken (life_in p i)) list)
      base_values = ap law.values (sym base_is ∙ judge ∙ ap (λ n. upto n list) place)

      restores : TakesOf t x.log (base i) (Restores g cs ∷ life_in p i)
      restores = record { taking = given; values = base_values; within = subst (λ n. n ≤ length list) place taker.within }

    by_rules : (d : Did) → ByRules t p i d → 0 < length (life_in p i)
    by_rules d h = let b = h.0.begun in omega (arith, b)

    first_state : (y : MemberState) → IsFirst (life_in p i) y → 0 < length (life_in p i)
    first_state y (inl z) = let n : length (life_in p i) ≡ 1 = ap length z.0 in omega (arith, n)
    first_state y (inr z) = let n : length (life_in p i) ≡ 1 = ap length z.1 in omega (arith, n)

    abbrev still : (d : Did) → taken (d ∷ life_in p i) ≡ taken (life_in p i) → lives.marked (life_of (base i) (d ∷ life_in p i)) ≡ lives.marked (life_of (base i) (life_in p i)) → (IsTaking t (base i) (life_in p i) → IsTaking t (base i) (d ∷ life_in p i)) → IsReady t i (life_in p i) → 0 < length (life_in p i) → TakesOf t x.log (base i) (d ∷ life_in p i)
    still d a m k r n = let o = here r n in quiet i d (life_in p i) a m (k o.taking) o

    state_still : (y : MemberState) (c : Cause) → IsReady t i (life_in p i) → 0 < length (life_in p i) → TakesOf t x.log (base i) (Is y c ∷ life_in p i)
    state_still y c r n = still (Is y c) refl (skip_state (base i) y c (life_in p i) (life_of (base i) (life_in p i))) (λ z. z) r n

    one_taker : (d : Did) → IsPast (Does i d ∷ p) w → IsDone t p i d → Follows t x.log p i d → Taker i (d ∷ life_in p i)
    one_taker Founds k h g r n = founds h.2 h.1
    one_taker (Starts y) k h g (inl f) n = absurd (false≢true (sym h.2 ∙ f))
    one_taker (Starts y) k h g (inr f) n = let z : has_give [] ≡ true = ap has_give (sym h.1) ∙ f in absurd (false≢true z)
    one_taker (Enters u) k h g (inl f) n = let z : Some u ≡ None = ((one_more t p i (Enters u) h shape).founder f).entered in absurd (cc z)
    one_taker (Enters u) k h g (inr f) n = absurd (false≢true (sym (enters_waits t p i u h shape).give ∙ f))
    one_taker (Restores y cs) k h g r n = restores y cs k
    one_taker (Took e) k h g r n =
        let m = by_rules (Took e) h in
        took e g (x.agrees p past_p i (viewed h.1.1 m)) (here (ready h.1.1) m)
    one_taker (Is y c) k (inl z) g r n = state_still y c r (first_state y z.1)
    one_taker (Is y c) k (inr z) g r n = state_still y c r (by_rules (Is y c) z)
    one_taker (Came (Hears m)) k h g r n = let b = h.0.begun in still (Came (Hears m)) refl refl (λ z. z) r (omega (arith, b))
    one_taker (Came e) k h g r n = still (Came e) refl refl (λ z. z) r (by_rules (Came e) h)
    one_taker (Made v y) k h g r n = still (Made v y) refl (skip_made v y (life_in p i) (life_of (base i) (life_in p i))) (λ z. z) r (by_rules (Made v y) h)
    one_taker (Skips s v) k h g r n = still (Skips s v) refl refl (λ z. z) r (by_rules (Skips s v) h)
    one_taker (Done s) k h g r n = still (Done s) refl refl (λ z. z) r (by_rules (Done s) h)
    one_taker (Committed y) k h g r n = still (Committed y) refl refl (λ z. z) r (by_rules (Committed y) h)
    one_taker (Gave a b) k h g r n = still (Gave a b) refl refl (λ z. z) r (by_rules (Gave a b) h)
    one_taker (Answered s a) k h g r n = still (Answered s a) refl (skip_answer (base i) s a (life_in p i) (life_of (base i) (life_in p i))) (λ z. z) r (by_rules (Answered s a) h)
    one_taker (Begun s a b) k h g r n = still (Begun s a b) refl refl (λ z. z) r (by_rules (Begun s a b) h)
    one_taker (Changed s c) k h g r n = still (Changed s c) refl refl (λ z. z) r (by_rules (Changed s c) h)
    one_taker (Replied y) k h g r n = still (Replied y) refl refl (λ z. z) r (by_rules (Replied y) h)
    one_taker (Called s v b) k h g r n = still (Called s v b) refl refl (λ z. z) r (by_rules (Called s v b) h)
    one_taker (AsksCommit s y) k h g r n = still (AsksCommit s y) refl refl (λ z. z) r (by_rules (AsksCommit s y) h)
    one_taker (Ends s) k h g r n = still (Ends s) refl refl (λ z. z) r (by_rules (Ends s) h)
    one_taker AskFails k h g r n = still AskFails refl refl (λ z. z) r (by_rules AskFails h)

  -- where all that happened before is taken and judged so, one thing more is taken so
  pub takes_more : (p : Past) (j : Inc) (d : Did) → IsPast (Does j d ∷ p) w → Before p → (i : Inc) → Taker i (life_in (Does j d ∷ p) i)
  takes_more p j d k before i = go (inc_eq j i) refl
    where
      past_p : IsPast p w
      past_p = past_of (Does j d ∷ p) p w k (inr (past_self p))

      done_p : AllDid (IsDone t) p
      done_p = (did_past (IsDone t) w (Does j d ∷ p) done k).1

      go : (b : Bool) → inc_eq j i ≡ b → Taker i (elim b [ true ↦ d ∷ life_in p i | false ↦ life_in p i ])
      go false e = (before p (past_self p) i).0
      go true e =
          let s : j ≡ i = inc_is j i e in
          let m : IsPast (Does i d ∷ p) w = subst (λ y. IsPast (Does y d ∷ p) w) s k in
          one_taker p i past_p done_p before d m (done_at (IsDone t) w p i d done m) (done_at (Follows t x.log) w p i d x.follows m)
