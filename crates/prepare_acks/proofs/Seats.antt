-- Who has a seat after an entry.
use Rattle.std.proofs.Common.{◌≡◌, inl, inr, ℕ, Bool, true, false, cond, ◌&&◌, ◌||◌, not, Option, Some, None, List, [], ◌∷◌, refl, sym, ap, subst, ◌∙◌}
use Rattle.std.specs.Prelude.{filter}
use Rattle.std.specs.List.{list_any}
use Rattle.std.proofs.lemmas.Bool.{and_right, cond_both, false≢true}
use Rattle.gr_ids.specs.declared.names.Inc.{Inc}
use Rattle.gr_ids.specs.declared.levels.MemberState.TheVariants.{Online, Recovering}
use Rattle.gr_ids.specs.declared.levels.Mode.TheVariants.{Single}
use Rattle.gr_ids.specs.Names.{inc_eq, inc_lt}
use Rattle.slot_values.specs.declared.value.Joiner.{Joiner}
use Rattle.slot_values.specs.declared.value.What.{What}
use Rattle.slot_values.specs.declared.value.What.TheVariants.{Noop, Add, Remove, Body as Says}
use Rattle.txn_forms.specs.declared.body.Body.{Body}
use Rattle.txn_forms.specs.declared.body.Body.TheVariants.{Txn as Writes, Prepared, Sync, Executed, Online as Arrives, Mode as Switches, Primary as Appoints, Part as PartOf}
use Rattle.txn_forms.specs.declared.body.ModeChange.TheVariants.{Multi as ToMulti, Single as ToSingle}
use Rattle.node_rules.specs.Lists.{In}
use Rattle.node_rules.specs.declared.seat.Seat.{Seat}
use Rattle.node_rules.proofs.Incs.{inc_is, inc_same}
use Rattle.group_rules.specs.declared.marks.Effect.{Effect}
use Rattle.group_rules.specs.declared.marks.Effect.TheVariants.{Plain, Void, Unread, Positive, Conflict}
use Rattle.group_rules.specs.View.{View, changed_view, comes_online, elect, has_primary, is_online, is_online_state, is_seated, is_single, joiners, next_view, online_incs, online_seats, seated, settled, with_named, with_primary, with_seat}

abbrev pub has_seat : List Seat → Inc → Bool
has_seat ss m = list_any (λ s. inc_eq s.joiner.inc m) ss

-- ---- what leaves the seats

abbrev elected_if : ℕ → View → Bool → View
elected_if p v b = elim b [ true ↦ with_primary p (elect (joiners (online_seats v))) v | false ↦ v ]

pub settled_seats : (p : ℕ) (v : View) → (settled p v).seats ≡ v.seats
settled_seats p v = go (is_single v.mode && not (has_primary v v.primary))
  where
    by : (o : Option Joiner) → (with_primary p o v).seats ≡ v.seats
    by None = refl
    by (Some j) = refl

    go : (b : Bool) → (elected_if p v b).seats ≡ v.seats
    go true = by (elect (joiners (online_seats v)))
    go false = refl

named_seats : (p : ℕ) (o : Option Inc) (v : View) → (with_named p o v).seats ≡ v.seats
named_seats p None v = refl
named_seats p (Some i) v = cond_both (is_online v i) (record v { primary = Some i; elected = p }) v (λ (z : View). z.seats ≡ v.seats) (λ h. refl) (λ h. refl)

seat_rises : (ss : List Seat) (i m : Inc) → has_seat (comes_online ss i) m ≡ has_seat ss m
seat_rises [] i m = refl
seat_rises (s ∷ ss) i m = go (inc_eq s.joiner.inc i) (seat_rises ss i m)
  where
    go : (b : Bool) → has_seat (comes_online ss i) m ≡ has_seat ss m → has_seat ((elim b [ true ↦ record s { state = Online } | false ↦ s ]) ∷ comes_online ss i) m ≡ has_seat (s ∷ ss) m
    go true k = ap (λ t. inc_eq s.joiner.inc m || t) k
    go false k = ap (λ t. inc_eq s.joiner.inc m || t) k

-- ---- who joins, and who leaves

abbrev pub joins_as : Effect → What → Inc → Bool
joins_as Plain (Add j) m = inc_eq j.inc m
joins_as f w m = false

abbrev pub leaves_as : Effect → What → Inc → Bool
leaves_as Plain (Remove i) m = inc_eq m i
leaves_as f w m = false

either_first : (a b c : Bool) → (a || (b || c)) ≡ (b || (a || c))
either_first true true c = refl
either_first true false c = refl
either_first false true c = refl
either_first false false c = refl

seat_put : (ss : List Seat) (x : Seat) (m : Inc) → has_seat (with_seat ss x) m ≡ (inc_eq x.joiner.inc m || has_seat ss m)
seat_put [] x m = refl
seat_put (s ∷ ss) x m = go (inc_lt x.joiner.inc s.joiner.inc) (seat_put ss x m)
  where
    go : (b : Bool) → has_seat (with_seat ss x) m ≡ (inc_eq x.joiner.inc m || has_seat ss m)
        → has_seat (elim b [ true ↦ x ∷ s ∷ ss | false ↦ s ∷ with_seat ss x ]) m ≡ (inc_eq x.joiner.inc m || (inc_eq s.joiner.inc m || has_seat ss m))
    go true r = refl
    go false r = ap (λ t. inc_eq s.joiner.inc m || t) r ∙ either_first (inc_eq s.joiner.inc m) (inc_eq x.joiner.inc m) (has_seat ss m)

seat_gone : (ss : List Seat) (i m : Inc) → has_seat (filter (λ s. not (inc_eq s.joiner.inc i)) ss) m ≡ (not (inc_eq m i) && has_seat ss m)
seat_gone [] i m = sym (and_right (not (inc_eq m i)) false refl)
seat_gone (s ∷ ss) i m = go (inc_eq s.joiner.inc i) refl (inc_eq s.joiner.inc m) refl (seat_gone ss i m)
  where
    as_seat : (b : Bool) → inc_eq s.joiner.inc i ≡ b → inc_eq s.joiner.inc m ≡ true → inc_eq m i ≡ b
    as_seat b f g = subst (λ z. inc_eq z i ≡ b) (inc_is s.joiner.inc m g) f

    go : (a : Bool) → inc_eq s.joiner.inc i ≡ a → (b : Bool) → inc_eq s.joiner.inc m ≡ b → has_seat (filter (λ x. not (inc_eq x.joiner.inc i)) ss) m ≡ (not (inc_eq m i) && has_seat ss m)
        → has_seat (filter (λ x. not (inc_eq x.joiner.inc i)) (s ∷ ss)) m ≡ (not (inc_eq m i) && has_seat (s ∷ ss) m)
    go true f true g r = let k : inc_eq m i ≡ true = as_seat true f g in rw (f, g, k) (r ∙ ap (λ b. not b && has_seat ss m) k)
    go true f false g r = rw (f, g) r
    go false f true g r = let k : inc_eq m i ≡ false = as_seat false f g in rw (f, g, k) refl
    go false f false g r = rw (f, g) r

abbrev moves_no_seat : What → Bool
moves_no_seat (Add j) = false
moves_no_seat (Remove i) = false
moves_no_seat w = true

other_seats : (p : ℕ) (o : Inc) (w : What) (x : Option Body) (v : View) (m : Inc) → moves_no_seat w ≡ true → has_seat (changed_view p o w x v).seats m ≡ has_seat v.seats m
other_seats p o (Add j) x v m h = absurd (false≢true h)
other_seats p o (Remove i) x v m h = absurd (false≢true h)
other_seats p o Noop None v m h = refl
other_seats p o Noop (Some (Writes t)) v m h = refl
other_seats p o Noop (Some (Prepared g)) v m h = refl
other_seats p o Noop (Some Sync) v m h = refl
other_seats p o Noop (Some (Executed e)) v m h = refl
other_seats p o Noop (Some (Arrives e)) v m h = seat_rises v.seats o m
other_seats p o Noop (Some (Switches ToMulti)) v m h = refl
other_seats p o Noop (Some (Switches (ToSingle i))) v m h = ap (λ ss. has_seat ss m) (named_seats p i (record v { mode = Single; primary = None }))
other_seats p o Noop (Some (Appoints i)) v m h = refl
other_seats p o Noop (Some (PartOf y)) v m h = refl
other_seats p o (Says b) None v m h = refl
other_seats p o (Says b) (Some (Writes t)) v m h = refl
other_seats p o (Says b) (Some (Prepared g)) v m h = refl
other_seats p o (Says b) (Some Sync) v m h = refl
other_seats p o (Says b) (Some (Executed e)) v m h = refl
other_seats p o (Says b) (Some (Arrives e)) v m h = seat_rises v.seats o m
other_seats p o (Says b) (Some (Switches ToMulti)) v m h = refl
other_seats p o (Says b) (Some (Switches (ToSingle i))) v m h = ap (λ ss. has_seat ss m) (named_seats p i (record v { mode = Single; primary = None }))
other_seats p o (Says b) (Some (Appoints i)) v m h = refl
other_seats p o (Says b) (Some (PartOf y)) v m h = refl

pub seated_after : (p : ℕ) (o : Inc) (w : What) (x : Option Body) (f : Effect) (v : View) (m : Inc)
    → is_seated (next_view p o w x f v) m ≡ (not (leaves_as f w m) && (joins_as f w m || is_seated v m))
seated_after p o (Add j) x Plain v m = ap (λ ss. has_seat ss m) (settled_seats p (changed_view p o (Add j) x v)) ∙ seat_put v.seats (record { joiner = j; state = Recovering }) m
seated_after p o (Remove i) x Plain v m = ap (λ ss. has_seat ss m) (settled_seats p (changed_view p o (Remove i) x v)) ∙ seat_gone v.seats i m
seated_after p o Noop x Plain v m = ap (λ ss. has_seat ss m) (settled_seats p (changed_view p o Noop x v)) ∙ other_seats p o Noop x v m refl
seated_after p o (Says b) x Plain v m = ap (λ ss. has_seat ss m) (settled_seats p (changed_view p o (Says b) x v)) ∙ other_seats p o (Says b) x v m refl
seated_after p o w x Void v m = ap (λ ss. has_seat ss m) (settled_seats p v)
seated_after p o w x Unread v m = ap (λ ss. has_seat ss m) (settled_seats p v)
seated_after p o w x (Positive g) v m = ap (λ ss. has_seat ss m) (settled_seats p v)
seated_after p o w x (Conflict g) v m = ap (λ ss. has_seat ss m) (settled_seats p v)

abbrev ups : List Seat → List Inc
ups ss = seated (filter (λ s. is_online_state s.state) ss)

-- those that are ONLINE have a seat
pub online_seated : (v : View) (m : Inc) → In m (online_incs v) → is_seated v m ≡ true
online_seated v m h = by v.seats h
  where
    by : (ss : List Seat) → In m (ups ss) → has_seat ss m ≡ true
    by [] k = absurd k
    by (s ∷ ss) k = go (is_online_state s.state) k (λ z. by ss z)
      where
        or_last : (b : Bool) → (b || true) ≡ true
        or_last true = refl
        or_last false = refl

        further : In m (ups ss) → (In m (ups ss) → has_seat ss m ≡ true) → has_seat (s ∷ ss) m ≡ true
        further z r = ap (λ b. inc_eq s.joiner.inc m || b) (r z) ∙ or_last (inc_eq s.joiner.inc m)

        go : (b : Bool) → In m (seated (cond b (s ∷ filter (λ x. is_online_state x.state) ss) (filter (λ x. is_online_state x.state) ss))) → (In m (ups ss) → has_seat ss m ≡ true) → has_seat (s ∷ ss) m ≡ true
        go true (inl z) r = ap (λ b. b || has_seat ss m) (ap (λ i. inc_eq i m) z ∙ inc_same m)
        go true (inr z) r = further z r
        go false z r = further z r
