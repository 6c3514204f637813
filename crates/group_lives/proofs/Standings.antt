-- The view has a seat for each incarnation that is a member, in its state, where none is added twice.
use Rattle.std.proofs.Common.{◌≡◌, ℕ, suc, Bool, true, false, cond, not, ◌&&◌, ◌||◌, List, [], ◌∷◌, map, length, refl, ◌∙◌, sym, ap, subst}
use Rattle.std.specs.Prelude.{Option, Some, None, filter}
use Rattle.std.specs.List.{list_any}
use Rattle.std.proofs.lemmas.Bool.{false≢true}
use Rattle.gr_ids.specs.declared.names.Inc.{Inc}
use Rattle.gr_ids.specs.declared.levels.MemberState.TheVariants.{Online as IsUp, Recovering as IsComing}
use Rattle.gr_ids.specs.declared.levels.Mode.TheVariants.{Single}
use Rattle.gr_ids.specs.Names.{inc_eq, inc_lt, has_inc}
use Rattle.node_rules.specs.declared.seat.Seat.{Seat}
use Rattle.slot_values.specs.declared.value.Joiner.{Joiner}
use Rattle.slot_values.specs.declared.value.What.TheVariants.{Add, Remove, Body as Says}
use Rattle.txn_forms.specs.declared.body.Body.TheVariants.{Online as Arrives, Mode as SwitchesTo, Primary as MakesPrimary}
use Rattle.txn_forms.specs.declared.body.ModeChange.{ModeChange}
use Rattle.txn_forms.specs.declared.body.ModeChange.TheVariants.{Multi as ToMulti, Single as ToSingle}
use Rattle.group_rules.specs.Events.{Setup}
use Rattle.group_rules.specs.View.{View, is_single, has_primary, elect, joiners, online_seats, is_online_state, is_online, settled, with_primary, with_named, with_seat, comes_online, void_if, is_idle, changed_view, next_view}
use Rattle.group_laws.specs.Entries.{Body, Write, Executed, Online, Joins, Leaves, Prepared, Switches, Appoints, Plain, Value}
use Rattle.group_laws.specs.View.{Standing, Absent, Recovering, Active, Gone, on_join, on_online, on_leave, stands_after, founders, standing, is_in, is_active}
use Rattle.group_laws.specs.Primary.{view_after, view}
use Rattle.node_rules.proofs.Incs.{inc_is, inc_same}
use Rattle.group_lives.specs.Sound.{IsNew, AddsNew}

-- ---- the seats after an entry

abbrev seats_after : Inc → Body → List Seat → List Seat
seats_after o (Joins j) ss = with_seat ss (record { joiner = j; state = IsComing })
seats_after o (Leaves i) ss = filter (λ s. not (inc_eq s.joiner.inc i)) ss
seats_after o (Online x) ss = comes_online ss o
seats_after o b ss = ss

elected_seats : (n : ℕ) (j : Option Joiner) (v : View) → (with_primary n j v).seats ≡ v.seats
elected_seats n None v = refl
elected_seats n (Some j) v = refl

settled_seats : (n : ℕ) (v : View) → (settled n v).seats ≡ v.seats
settled_seats n v = go (is_single v.mode && not (has_primary v v.primary)) refl
  where
    go : (b : Bool) → (is_single v.mode && not (has_primary v v.primary)) ≡ b → (settled n v).seats ≡ v.seats
    go true e = rw (e, settled) (elected_seats n (elect (joiners (online_seats v))) v)
    go false e = rw (e, settled) refl

named_seats : (n : ℕ) (i : Option Inc) (v : View) → (with_named n i v).seats ≡ v.seats
named_seats n None v = refl
named_seats n (Some i) v = go (is_online v i)
  where
    go : (b : Bool) → (cond b (record v { primary = Some i; elected = n }) v).seats ≡ v.seats
    go true = refl
    go false = refl

switched_seats : (n : ℕ) (o : Inc) (m : ModeChange) (v : View) (b : Bool) → (next_view n o (Says []) (Some (SwitchesTo m)) (void_if b) v).seats ≡ v.seats
switched_seats n o ToMulti v true = settled_seats n v
switched_seats n o ToMulti v false = settled_seats n (changed_view n o (Says []) (Some (SwitchesTo ToMulti)) v)
switched_seats n o (ToSingle i) v true = settled_seats n v
switched_seats n o (ToSingle i) v false = settled_seats n (changed_view n o (Says []) (Some (SwitchesTo (ToSingle i))) v) ∙ named_seats n i (record v { mode = Single; primary = None })

appointed_seats : (n : ℕ) (o i : Inc) (v : View) (b : Bool) → (next_view n o (Says []) (Some (MakesPrimary i)) (void_if b) v).seats ≡ v.seats
appointed_seats n o i v true = settled_seats n v
appointed_seats n o i v false = settled_seats n (changed_view n o (Says []) (Some (MakesPrimary i)) v)

after_seats : (n : ℕ) (o : Inc) (b : Body) (v : View) → (view_after n o b v).seats ≡ seats_after o b v.seats
after_seats n o (Joins j) v = settled_seats n (changed_view n o (Add j) None v)
after_seats n o (Leaves i) v = settled_seats n (changed_view n o (Remove i) None v)
after_seats n o (Online x) v = settled_seats n (changed_view n o (Says []) (Some (Arrives x)) v)
after_seats n o (Switches m) v = switched_seats n o m v (is_idle v (SwitchesTo m))
after_seats n o (Appoints i) v = appointed_seats n o i v (is_idle v (MakesPrimary i))
after_seats n o (Write t) v = settled_seats n v
after_seats n o (Executed t) v = settled_seats n v
after_seats n o (Prepared t) v = settled_seats n v
after_seats n o Plain v = settled_seats n v

-- ---- the seat of one member

abbrev pub sat : List Seat → Inc → Bool
sat ss m = list_any (λ s. inc_eq s.joiner.inc m) ss

abbrev pub up : List Seat → Inc → Bool
up ss m = list_any (λ s. inc_eq s.joiner.inc m && is_online_state s.state) ss

or_moves : (a b c : Bool) → (a || (b || c)) ≡ (b || (a || c))
or_moves true true c = refl
or_moves true false c = refl
or_moves false b c = refl

seat_more : (f : Seat → Bool) (ss : List Seat) (s : Seat) → list_any f (with_seat ss s) ≡ (f s || list_any f ss)
seat_more f [] s = refl
seat_more f (x ∷ xs) s = go (inc_lt s.joiner.inc x.joiner.inc) refl (seat_more f xs s)
  where
    go : (b : Bool) → inc_lt s.joiner.inc x.joiner.inc ≡ b → list_any f (with_seat xs s) ≡ (f s || list_any f xs) → list_any f (with_seat (x ∷ xs) s) ≡ (f s || list_any f (x ∷ xs))
    go true e k = rw (e, with_seat) refl
    go false e k = rw (e, with_seat) (ap (λ (z : Bool). f x || z) k ∙ or_moves (f x) (f s) (list_any f xs))

-- the seats of `m` alone pass the test
module _ (m : Inc) (f : Seat → Bool) (named : (s : Seat) → f s ≡ true → inc_eq s.joiner.inc m ≡ true) where
  seat_left : (i : Inc) (ss : List Seat) → list_any f (filter (λ s. not (inc_eq s.joiner.inc i)) ss) ≡ cond (inc_eq i m) false (list_any f ss)
  seat_left i [] = go (inc_eq i m)
    where
      go : (b : Bool) → false ≡ cond b false false
      go true = refl
      go false = refl
  seat_left i (s ∷ ss) = go (inc_eq s.joiner.inc i) (f s) (inc_eq i m) refl refl refl (seat_left i ss)
    where
      go : (a b c : Bool) → inc_eq s.joiner.inc i ≡ a → f s ≡ b → inc_eq i m ≡ c
          → list_any f (filter (λ s. not (inc_eq s.joiner.inc i)) ss) ≡ cond (inc_eq i m) false (list_any f ss)
          → list_any f (filter (λ s. not (inc_eq s.joiner.inc i)) (s ∷ ss)) ≡ cond (inc_eq i m) false (list_any f (s ∷ ss))
      go true b true p q r k = rw (p, r) (k ∙ ap (λ (z : Bool). cond z false (list_any f ss)) r)
      go true true false p q r k = absurd (false≢true (sym r ∙ ap (λ (z : Inc). inc_eq z m) (sym (inc_is s.joiner.inc i p)) ∙ named s q))
      go true false false p q r k = rw (p, q, r) (k ∙ ap (λ (z : Bool). cond z false (list_any f ss)) r)
      go false true true p q r k = absurd (false≢true (sym p ∙ ap (λ (z : Inc). inc_eq z i) (inc_is s.joiner.inc m (named s q)) ∙ ap (λ (z : Inc). inc_eq z i) (sym (inc_is i m r)) ∙ inc_same i))
      go false false true p q r k = rw (p, q, r) (k ∙ ap (λ (z : Bool). cond z false (list_any f ss)) r)
      go false b false p q r k = rw (p, q, r) (ap (λ (z : Bool). b || z) (k ∙ ap (λ (z : Bool). cond z false (list_any f ss)) r))

both_first : (a b : Bool) → (a && b) ≡ true → a ≡ true
both_first true b h = refl
both_first false b h = h

sat_online : (ss : List Seat) (o m : Inc) → sat (comes_online ss o) m ≡ sat ss m
sat_online [] o m = refl
sat_online (s ∷ ss) o m = go (inc_eq s.joiner.inc o) refl (sat_online ss o m)
  where
    go : (b : Bool) → inc_eq s.joiner.inc o ≡ b → sat (comes_online ss o) m ≡ sat ss m → sat (comes_online (s ∷ ss) o) m ≡ sat (s ∷ ss) m
    go true e k = rw e (ap (λ (z : Bool). inc_eq s.joiner.inc m || z) k)
    go false e k = rw e (ap (λ (z : Bool). inc_eq s.joiner.inc m || z) k)

up_online : (ss : List Seat) (o m : Inc) → up (comes_online ss o) m ≡ cond (inc_eq o m) (sat ss m) (up ss m)
up_online [] o m = go (inc_eq o m)
  where
    go : (b : Bool) → false ≡ cond b false false
    go true = refl
    go false = refl
up_online (s ∷ ss) o m = go (inc_eq s.joiner.inc o) (inc_eq o m) (inc_eq s.joiner.inc m) refl refl refl (up_online ss o m)
  where
    itself : (x y : Inc) → x ≡ y → inc_eq x y ≡ true
    itself x y e = subst (λ (z : Inc). inc_eq x z ≡ true) e (inc_same x)

    go : (a b c : Bool) → inc_eq s.joiner.inc o ≡ a → inc_eq o m ≡ b → inc_eq s.joiner.inc m ≡ c
        → up (comes_online ss o) m ≡ cond (inc_eq o m) (sat ss m) (up ss m) → up (comes_online (s ∷ ss) o) m ≡ cond (inc_eq o m) (sat (s ∷ ss) m) (up (s ∷ ss) m)
    go true true true p q r k = rw (p, q, r) refl
    go true true false p q r k = absurd (false≢true (sym r ∙ itself s.joiner.inc m (inc_is s.joiner.inc o p ∙ inc_is o m q)))
    go true false true p q r k = absurd (false≢true (sym q ∙ itself o m (sym (inc_is s.joiner.inc o p) ∙ inc_is s.joiner.inc m r)))
    go true false false p q r k = rw (p, q, r) (k ∙ ap (λ (z : Bool). cond z (sat ss m) (up ss m)) q)
    go false true true p q r k = absurd (false≢true (sym p ∙ itself s.joiner.inc o (inc_is s.joiner.inc m r ∙ sym (inc_is o m q))))
    go false true false p q r k = rw (p, q, r) (k ∙ ap (λ (z : Bool). cond z (sat ss m) (up ss m)) q)
    go false false c p q r k = rw (p, q, r) (ap (λ (z : Bool). (c && is_online_state s.state) || z) (k ∙ ap (λ (z : Bool). cond z (sat ss m) (up ss m)) q))

up_is_sat : (ss : List Seat) (m : Inc) → sat ss m ≡ false → up ss m ≡ false
up_is_sat [] m h = refl
up_is_sat (s ∷ ss) m h = go (inc_eq s.joiner.inc m) (sat ss m) refl refl h (up_is_sat ss m)
  where
    go : (a b : Bool) → inc_eq s.joiner.inc m ≡ a → sat ss m ≡ b → (a || b) ≡ false → (sat ss m ≡ false → up ss m ≡ false) → up (s ∷ ss) m ≡ false
    go true b p q r k = absurd (false≢true (sym r))
    go false true p q r k = absurd (false≢true (sym r))
    go false false p q r k = rw p (k q)

-- ---- how a member stands is how its seat is

abbrev pub StandsAs : List Seat → Inc → Standing → Type 0
StandsAs ss m x = (sat ss m ≡ is_in x) × (up ss m ≡ is_active x)

founded : (js : List Joiner) (m : Inc) → let ss = map {A = Joiner} {B = Seat} (λ j. record { joiner = j; state = IsUp }) js in (sat ss m ≡ has_inc (map (λ j. j.inc) js) m) × (up ss m ≡ has_inc (map (λ j. j.inc) js) m)
founded [] m = (refl, refl)
founded (j ∷ js) m =
    let k = founded js m in
    (ap (λ (z : Bool). inc_eq j.inc m || z) k.0, (λ i. and_itself (inc_eq j.inc m) i || k.1 i))
  where
    and_itself : (a : Bool) → (a && true) ≡ a
    and_itself true = refl
    and_itself false = refl

module _ (m o : Inc) where
  online_here : (b : Bool) (x : Standing) (ss : List Seat) → inc_eq o m ≡ b → StandsAs ss m x → StandsAs (comes_online ss o) m (cond b (on_online x) x)
  online_here false x ss e h = (sat_online ss o m ∙ h.0, up_online ss o m ∙ ap (λ (z : Bool). cond z (sat ss m) (up ss m)) e ∙ h.1)
  online_here true Absent ss e h = (sat_online ss o m ∙ h.0, up_online ss o m ∙ ap (λ (z : Bool). cond z (sat ss m) (up ss m)) e ∙ h.0)
  online_here true Recovering ss e h = (sat_online ss o m ∙ h.0, up_online ss o m ∙ ap (λ (z : Bool). cond z (sat ss m) (up ss m)) e ∙ h.0)
  online_here true Active ss e h = (sat_online ss o m ∙ h.0, up_online ss o m ∙ ap (λ (z : Bool). cond z (sat ss m) (up ss m)) e ∙ h.0)
  online_here true Gone ss e h = (sat_online ss o m ∙ h.0, up_online ss o m ∙ ap (λ (z : Bool). cond z (sat ss m) (up ss m)) e ∙ h.0)

  abbrev leaving : List Seat → List Seat
  leaving ss = filter (λ s. not (inc_eq s.joiner.inc o)) ss

  sat_left : (ss : List Seat) → sat (leaving ss) m ≡ cond (inc_eq o m) false (sat ss m)
  sat_left ss = seat_left m (λ s. inc_eq s.joiner.inc m) (λ s h. h) o ss

  up_left : (ss : List Seat) → up (leaving ss) m ≡ cond (inc_eq o m) false (up ss m)
  up_left ss = seat_left m (λ s. inc_eq s.joiner.inc m && is_online_state s.state) (λ s h. both_first (inc_eq s.joiner.inc m) (is_online_state s.state) h) o ss

  left_here : (b : Bool) (x : Standing) (ss : List Seat) → inc_eq o m ≡ b → StandsAs ss m x → StandsAs (leaving ss) m (cond b (on_leave x) x)
  left_here false x ss e h = (sat_left ss ∙ ap (λ (z : Bool). cond z false (sat ss m)) e ∙ h.0, up_left ss ∙ ap (λ (z : Bool). cond z false (up ss m)) e ∙ h.1)
  left_here true Absent ss e h = (sat_left ss ∙ ap (λ (z : Bool). cond z false (sat ss m)) e, up_left ss ∙ ap (λ (z : Bool). cond z false (up ss m)) e)
  left_here true Recovering ss e h = (sat_left ss ∙ ap (λ (z : Bool). cond z false (sat ss m)) e, up_left ss ∙ ap (λ (z : Bool). cond z false (up ss m)) e)
  left_here true Active ss e h = (sat_left ss ∙ ap (λ (z : Bool). cond z false (sat ss m)) e, up_left ss ∙ ap (λ (z : Bool). cond z false (up ss m)) e)
  left_here true Gone ss e h = (sat_left ss ∙ ap (λ (z : Bool). cond z false (sat ss m)) e, up_left ss ∙ ap (λ (z : Bool). cond z false (up ss m)) e)

joins_here : (m : Inc) (j : Joiner) (b : Bool) (x : Standing) (ss : List Seat) → inc_eq j.inc m ≡ b → (b ≡ true → x ≡ Absent) → StandsAs ss m x
    → StandsAs (with_seat ss (record { joiner = j; state = IsComing })) m (cond b (on_join x) x)
joins_here m j false x ss e n h = (
  seat_more (λ s. inc_eq s.joiner.inc m) ss (record { joiner = j; state = IsComing }) ∙ ap (λ (z : Bool). z || sat ss m) e ∙ h.0,
  seat_more (λ s. inc_eq s.joiner.inc m && is_online_state s.state) ss (record { joiner = j; state = IsComing }) ∙ ap (λ (z : Bool). (z && false) || up ss m) e ∙ h.1,
)
joins_here m j true x ss e n h = (
  seat_more (λ s. inc_eq s.joiner.inc m) ss (record { joiner = j; state = IsComing }) ∙ ap (λ (z : Bool). z || sat ss m) e ∙ ap (λ (z : Standing). is_in (on_join z)) (sym (n refl)),
  seat_more (λ s. inc_eq s.joiner.inc m && is_online_state s.state) ss (record { joiner = j; state = IsComing }) ∙ ap (λ (z : Bool). (z && false) || up ss m) e
      ∙ h.1 ∙ ap is_active (n refl) ∙ ap (λ (z : Standing). is_active (on_join z)) (sym (n refl)),
)

pub stands : (r : Setup) (p : List Value) (m : Inc) → AddsNew r p → StandsAs (view r p).seats m (standing r p m)
stands r [] m h =
    let k = founded r.founders m in
    let s = settled_seats 0 (record { number = 1; mode = r.mode; primary = None; elected = 0; seats = map {A = Joiner} {B = Seat} (λ j. record { joiner = j; state = IsUp }) r.founders }) in
    (ap (λ ss. sat ss m) s ∙ k.0 ∙ by_in (has_inc (founders r) m), ap (λ ss. up ss m) s ∙ k.1 ∙ by_active (has_inc (founders r) m))
  where
    by_in : (b : Bool) → b ≡ is_in (cond b Active Absent)
    by_in true = refl
    by_in false = refl

    by_active : (b : Bool) → b ≡ is_active (cond b Active Absent)
    by_active true = refl
    by_active false = refl
stands r (v ∷ p) m h =
    subst (λ (ss : List Seat). StandsAs ss m (standing r (v ∷ p) m)) (sym (after_seats (suc (length p)) v.origin v.body (view r p)))
    (by_body v.body h.0 (stands r p m h.1))
  where
    by_body : (b : Body) → IsNew r p b → StandsAs (view r p).seats m (standing r p m) → StandsAs (seats_after v.origin b (view r p).seats) m (stands_after m v.origin b (standing r p m))
    by_body (Joins j) n k = joins_here m j (inc_eq j.inc m) (standing r p m) (view r p).seats refl (λ e. ap (standing r p) (sym (inc_is j.inc m e)) ∙ n) k
    by_body (Leaves i) n k = left_here m i (inc_eq i m) (standing r p m) (view r p).seats refl k
    by_body (Online x) n k = online_here m v.origin (inc_eq v.origin m) (standing r p m) (view r p).seats refl k
    by_body (Write t) n k = k
    by_body (Executed t) n k = k
    by_body (Prepared t) n k = k
    by_body (Switches t) n k = k
    by_body (Appoints t) n k = k
    by_body Plain n k = k
