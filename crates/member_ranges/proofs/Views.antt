-- A view that a Welcome can tell stays one, entry by entry.
use Rattle.std.proofs.Common.{◌≡◌, ◌⊎◌, inl, inr, ℕ, ◌+◌, ◌≤◌, Bool, true, false, not, ◌&&◌, Option, Some, None, List, [], ◌∷◌, refl, sym, subst, arith}
use Rattle.std.specs.Prelude.{filter, map}
use Rattle.std.proofs.lemmas.Bool.{cond_both}
use Rattle.byte_forms.specs.Lists.{IsChain}
use Rattle.gr_ids.specs.Names.{inc_eq, inc_lt}
use Rattle.gr_ids.specs.declared.names.Inc.{Inc}
use Rattle.gr_ids.specs.declared.levels.MemberState.TheVariants.{Online, Recovering}
use Rattle.gr_ids.specs.declared.levels.Mode.{Mode}
use Rattle.gr_ids.specs.declared.levels.Mode.TheVariants.{Multi, Single}
use Rattle.name_forms.specs.Incs.{IsInc}
use Rattle.slot_values.specs.Joiners.{IsJoiner, IsJoinerAfter}
use Rattle.slot_values.specs.Spelling.{IsWhat}
use Rattle.slot_values.specs.declared.value.Joiner.{Joiner}
use Rattle.slot_values.specs.declared.value.What.{What}
use Rattle.slot_values.specs.declared.value.What.TheVariants.{Noop, Add, Remove, Body as Says}
use Rattle.txn_forms.specs.declared.body.Body.{Body}
use Rattle.txn_forms.specs.declared.body.Body.TheVariants.{Txn as Writes, Prepared, Sync, Executed, Online as Arrives, Mode as Switches, Primary as Appoints, Part as PartOf}
use Rattle.txn_forms.specs.declared.body.ModeChange.TheVariants.{Multi as ToMulti, Single as ToSingle}
use Rattle.paxos_forms.specs.Welcomes.{IsMemberAfter, IsPrimary, IsWelcome, inc_before}
use Rattle.paxos_forms.specs.declared.welcome.Welcome.{Welcome}
use Rattle.paxos_forms.specs.declared.welcome.WelcomeMember.{WelcomeMember}
use Rattle.node_rules.specs.declared.seat.Seat.{Seat}
use Rattle.node_rules.specs.Lists.{In}
use Rattle.order_laws.proofs.Lists.{in_filter, in_map}
use Rattle.group_rules.specs.declared.marks.Effect.{Effect}
use Rattle.group_rules.specs.declared.marks.Effect.TheVariants.{Plain, Void, Unread, Positive, Conflict}
use Rattle.group_rules.specs.Life.{view_told}
use Rattle.group_rules.specs.View.{View, changed_view, comes_online, elect, first_of_two, founding, goes_first, has_primary, is_online, is_online_state, is_single, joiners, next_view, online_seats, settled, with_named, with_primary, with_seat}
use Rattle.member_ranges.specs.Lives.{IsHolding}
use Rattle.member_ranges.specs.Ranges.{IsFounderAfter, IsSeat, IsView, inc_of_joiner}

-- ---- elections

some_is : {A : Type 0} {x y : A} → Some x ≡ Some y → x ≡ y
some_is {x = x} {y = y} e = cc

elect_in : (js : List Joiner) (j : Joiner) → elect js ≡ Some j → In j js
elect_in [] j h = absurd (cc h)
elect_in (x ∷ xs) j h = go (elect xs) refl h (elect_in xs)
  where
    go : (o : Option Joiner) → elect xs ≡ o → first_of_two x o ≡ Some j → ((y : Joiner) → elect xs ≡ Some y → In y xs) → In j (x ∷ xs)
    go None e q r = inl (some_is q)
    go (Some b) e q r = cond_both (goes_first x b) (Some x) (Some b) (λ o. o ≡ Some j → In j (x ∷ xs)) (λ f z. inl (some_is z)) (λ f z. inr (subst (λ y. In y xs) (some_is z) (r b e))) q

elected_inc : (v : View) (j : Joiner) → ((s : Seat) → In s v.seats → IsSeat s) → elect (joiners (online_seats v)) ≡ Some j → IsInc j.inc
elected_inc v j k h =
    let r = in_map {A = Seat} (λ s. s.joiner) (online_seats v) j (elect_in (joiners (online_seats v)) j h) in
    let q = k r.0 (in_filter (λ s. is_online_state s.state) v.seats r.0 r.1) in
    subst (λ (y : Joiner). IsInc y.inc) r.2 (q.0).inc

pub settled_view : (p : ℕ) (v : View) → IsView p v → IsView p (settled p v)
settled_view p v k = go (is_single v.mode && not (has_primary v v.primary)) refl
  where
    by : (o : Option Joiner) → elect (joiners (online_seats v)) ≡ o → IsView p (with_primary p o v)
    by None e = record { number_above = k.number_above; number_below = k.number_below; primary = tt; elected = omega arith; seats = k.seats }
    by (Some j) e = record { number_above = k.number_above; number_below = k.number_below; primary = elected_inc v j k.seats e; elected = omega arith; seats = k.seats }

    go : (b : Bool) → (is_single v.mode && not (has_primary v v.primary)) ≡ b → IsView p (settled p v)
    go true e = rw (e, settled) (by (elect (joiners (online_seats v))) refl)
    go false e = rw (e, settled) k

-- ---- what an entry changes

later_view : (k p : ℕ) (v : View) → k ≤ p → IsView k v → IsView p v
later_view k p v h q = record { number_above = q.number_above; number_below = omega (arith, h, q.number_below); primary = q.primary; elected = omega (arith, h, q.elected); seats = q.seats }

in_with_seat : (ss : List Seat) (x s : Seat) → In s (with_seat ss x) → (x ≡ s) ⊎ In s ss
in_with_seat [] x s h = h
in_with_seat (y ∷ ys) x s h = go (inc_lt x.joiner.inc y.joiner.inc) refl (in_with_seat ys x s)
  where
    go : (u : Bool) → inc_lt x.joiner.inc y.joiner.inc ≡ u → (In s (with_seat ys x) → (x ≡ s) ⊎ In s ys) → (x ≡ s) ⊎ In s (y ∷ ys)
    go true e r = let k : In s (x ∷ y ∷ ys) = rw (e, with_seat) at h in k
    go false e r = let k : In s (y ∷ with_seat ys x) = rw (e, with_seat) at h in elim k [ inl q ↦ inr (inl q) | inr q ↦ elim (r q) [ inl z ↦ inl z | inr z ↦ inr (inr z) ] ]

online_seat : (ss : List Seat) (i : Inc) → ((s : Seat) → In s ss → IsSeat s) → (s : Seat) → In s (comes_online ss i) → IsSeat s
online_seat [] i k s h = absurd h
online_seat (x ∷ xs) i k s (inr q) = online_seat xs i (λ y z. k y (inr z)) s q
online_seat (x ∷ xs) i k s (inl e) = subst (λ y. IsSeat y) e (go (inc_eq x.joiner.inc i))
  where
    here : IsSeat x
    here = k x (inl refl)

    go : (u : Bool) → IsSeat (elim u [ true ↦ record x { state = Online } | false ↦ x ])
    go true = (here.0, omega arith)
    go false = here

named_view : (p : ℕ) (o : Option Inc) (v : View) → IsPrimary o → IsView p v → IsView p (with_named p o v)
named_view p None v i k = k
named_view p (Some j) v i k = cond_both (is_online v j) (record v { primary = Some j; elected = p }) v (λ (z : View). IsView p z)
    (λ e. record { number_above = k.number_above; number_below = k.number_below; primary = i; elected = omega arith; seats = k.seats }) (λ e. k)

module _ (k p : ℕ) (later : k + 1 ≤ p) (o : Inc) (v : View) (q : IsView k v) where
  same_view : IsView p v
  same_view = later_view k p v (omega (arith, later)) q

  with_seats : (ss : List Seat) → ((s : Seat) → In s ss → IsSeat s) → IsView p (record v { seats = ss })
  with_seats ss f = record { number_above = q.number_above; number_below = omega (arith, later, q.number_below); primary = q.primary; elected = omega (arith, later, q.elected); seats = f }

  one_more : (ss : List Seat) → ((s : Seat) → In s ss → IsSeat s) → IsView p (record v { number = v.number + 1; seats = ss })
  one_more ss f = record { number_above = omega arith; number_below = omega (arith, later, q.number_below); primary = q.primary; elected = omega (arith, later, q.elected); seats = f }

  in_mode : (m : Mode) (i : Option Inc) (n : ℕ) → IsPrimary i → n ≤ p → IsView p (record v { mode = m; primary = i; elected = n })
  in_mode m i n h e = record { number_above = q.number_above; number_below = omega (arith, later, q.number_below); primary = h; elected = e; seats = q.seats }

  -- a value that is no Add and no Remove
  body_view : (w : What) (x : Option Body) → IsHolding x → ((y : Option Body) → changed_view p o w y v ≡ changed_view p o Noop y v) → IsView p (changed_view p o w x v)
  body_view w x h e = subst (λ z. IsView p z) (sym (e x)) (by x h)
    where
      by : (y : Option Body) → IsHolding y → IsView p (changed_view p o Noop y v)
      by None h = same_view
      by (Some (Writes t)) h = same_view
      by (Some (Prepared g)) h = same_view
      by (Some Sync) h = same_view
      by (Some (Executed z)) h = same_view
      by (Some (Arrives z)) h = with_seats (comes_online v.seats o) (online_seat v.seats o q.seats)
      by (Some (Switches ToMulti)) h = in_mode Multi None 0 tt (omega arith)
      by (Some (Switches (ToSingle None))) h = in_mode Single None v.elected tt (omega (arith, later, q.elected))
      by (Some (Switches (ToSingle (Some i)))) h = named_view p (Some i) (record v { mode = Single; primary = None }) h.0 (in_mode Single None v.elected tt (omega (arith, later, q.elected)))
      by (Some (Appoints i)) h = in_mode v.mode (Some i) p h.0 (omega arith)
      by (Some (PartOf z)) h = same_view

  noop_alike : (z : List ℕ) (y : Option Body) → changed_view p o (Says z) y v ≡ changed_view p o Noop y v
  noop_alike z None = refl
  noop_alike z (Some (Writes t)) = refl
  noop_alike z (Some (Prepared g)) = refl
  noop_alike z (Some Sync) = refl
  noop_alike z (Some (Executed e)) = refl
  noop_alike z (Some (Arrives e)) = refl
  noop_alike z (Some (Switches ToMulti)) = refl
  noop_alike z (Some (Switches (ToSingle i))) = refl
  noop_alike z (Some (Appoints i)) = refl
  noop_alike z (Some (PartOf y)) = refl

  changed_is_view : (n : ℕ) (w : What) (x : Option Body) → IsWhat n w → IsHolding x → IsView p (changed_view p o w x v)
  changed_is_view n (Add j) x i h =
      let new : Seat = record { joiner = j; state = Recovering } in
      one_more (with_seat v.seats new) (λ s z. elim (in_with_seat v.seats new s z) [ inl e ↦ subst (λ y. IsSeat y) e (i, omega arith) | inr z ↦ q.seats s z ])
  changed_is_view n (Remove j) x i h = one_more (filter (λ s. not (inc_eq s.joiner.inc j)) v.seats) (λ s z. q.seats s (in_filter (λ (s : Seat). not (inc_eq s.joiner.inc j)) v.seats s z))
  changed_is_view n Noop x i h = body_view Noop x h (λ y. refl)
  changed_is_view n (Says z) x i h = body_view (Says z) x h (noop_alike z)

  pub next_is_view : (n : ℕ) (w : What) (x : Option Body) (e : Effect) → IsWhat n w → IsHolding x → IsView p (next_view p o w x e v)
  next_is_view n w x Plain i h = settled_view p (changed_view p o w x v) (changed_is_view n w x i h)
  next_is_view n w x Void i h = settled_view p v same_view
  next_is_view n w x Unread i h = settled_view p v same_view
  next_is_view n w x (Positive g) i h = settled_view p v same_view
  next_is_view n w x (Conflict g) i h = settled_view p v same_view

-- ---- how a view begins

pub after_none : (b : Option Inc) (j : Joiner) → IsJoinerAfter b j → IsJoiner j
after_none None j h = h
after_none (Some i) j h = record { inc = h.inc.0; uuid = h.uuid; parts = h.parts; small = h.small; weight = h.weight }

founder_seats : (js : List Joiner) (b : Option Joiner) → IsChain IsFounderAfter b js → (s : Seat) → In s (map {A = Joiner} {B = Seat} (λ j. record { joiner = j; state = Online }) js) → IsSeat s
founder_seats [] b k s h = absurd h
founder_seats (j ∷ js) b k s (inl e) = subst (λ y. IsSeat y) e (after_none (inc_of_joiner b) j k.0, omega arith)
founder_seats (j ∷ js) b k s (inr q) = founder_seats js (Some j) k.1 s q

pub founding_is_view : (m : Mode) (js : List Joiner) → IsChain IsFounderAfter None js → IsView 0 (founding m js)
founding_is_view m js k = settled_view 0 (record { number = 1; mode = m; primary = None; elected = 0; seats = map {A = Joiner} {B = Seat} (λ j. record { joiner = j; state = Online }) js }) (record { number_above = omega arith; number_below = omega arith; primary = tt; elected = omega arith; seats = founder_seats js None k })

told_seats : (place : ℕ) (ms : List WelcomeMember) (b : Option WelcomeMember) → IsChain (IsMemberAfter place) b ms → (s : Seat) → In s (map {A = WelcomeMember} {B = Seat} (λ m. record { joiner = m.joiner; state = m.state }) ms) → IsSeat s
told_seats place [] b k s h = absurd h
told_seats place (m ∷ ms) b k s (inl e) = subst (λ y. IsSeat y) e (after_none (inc_before b) m.joiner (k.0).joiner, (k.0).state)
told_seats place (m ∷ ms) b k s (inr q) = told_seats place ms (Some m) k.1 s q

pub told_is_view : (w : Welcome) → IsWelcome w → IsView w.place (view_told w)
told_is_view w k = record { number_above = k.number_above; number_below = k.number_below; primary = k.primary; elected = k.elected; seats = told_seats w.place w.members None k.members }
