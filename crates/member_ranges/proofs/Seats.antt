-- The seats of a view are those of the members of the kept list, entry by entry.
use Rattle.std.proofs.Common.{◌≡◌, ℕ, Bool, true, false, not, ◌&&◌, Option, Some, None, List, [], ◌∷◌, refl, sym, ap, ◌∙◌}
use Rattle.std.specs.Prelude.{filter, map, if◌then◌else◌}
use Rattle.std.proofs.lemmas.Bool.{and_parts, cond_both, false≢true, not-true}
use Rattle.gr_ids.specs.Names.{inc_eq, inc_lt}
use Rattle.gr_ids.specs.declared.names.Inc.{Inc}
use Rattle.gr_ids.specs.declared.levels.MemberState.TheVariants.{Online, Recovering}
use Rattle.gr_ids.specs.declared.levels.Mode.TheVariants.{Single}
use Rattle.node_rules.specs.declared.seat.Seat.{Seat}
use Rattle.slot_values.specs.declared.value.Joiner.{Joiner}
use Rattle.slot_values.specs.declared.value.Value.{Value}
use Rattle.slot_values.specs.declared.value.What.{What}
use Rattle.slot_values.specs.declared.value.What.TheVariants.{Noop, Add, Remove, Body as Says}
use Rattle.slot_values.specs.Values.{is_noop}
use Rattle.slot_values.specs.declared.member.Member.{Member}
use Rattle.slot_values.specs.Log.{Reading, changed, has_effect, incs, is_kept, kept, read, with_member, without}
use Rattle.txn_forms.specs.declared.body.Body.{Body}
use Rattle.txn_forms.specs.declared.body.Body.TheVariants.{Txn as Writes, Prepared, Sync, Executed, Online as Arrives, Mode as Switches, Primary as Appoints, Part as PartOf}
use Rattle.txn_forms.specs.declared.body.ModeChange.TheVariants.{Multi as ToMulti, Single as ToSingle}
use Rattle.group_rules.specs.declared.marks.Effect.{Effect}
use Rattle.group_rules.specs.declared.marks.Effect.TheVariants.{Plain, Void, Unread, Positive, Conflict}
use Rattle.group_rules.specs.Events.{Life, Setup, Took}
use Rattle.group_rules.specs.Life.{view}
use Rattle.group_rules.specs.Parts.{held, open_parts}
use Rattle.group_rules.specs.Taking.{effect_of, entry_of}
use Rattle.group_rules.specs.View.{View, changed_view, comes_online, elect, has_primary, is_online, is_single, joiners, next_view, online_seats, seated, settled, void_if, with_named, with_primary, with_seat}
use Rattle.member_ranges.proofs.Chains.{incs_counted}

-- ---- lists of seats and of members

-- those of seats and of members that are put in the same place
seat_put : (ss : List Seat) (s : Seat) (ms : List Member) → incs ms ≡ seated ss → incs (with_member ms s.joiner.inc) ≡ seated (with_seat ss s)
seat_put [] s [] h = refl
seat_put [] s (m ∷ ms) h = absurd (cc h)
seat_put (x ∷ ss) s [] h = absurd (cc h)
seat_put (x ∷ ss) s (m ∷ ms) h =
    let a : m.inc ≡ x.joiner.inc = cc in
    let b : incs ms ≡ seated ss = cc in
    go (inc_lt s.joiner.inc m.inc) (ap (λ i. inc_lt s.joiner.inc i) a) a b (seat_put ss s ms b)
  where
    go : (c : Bool) → c ≡ inc_lt s.joiner.inc x.joiner.inc → m.inc ≡ x.joiner.inc → incs ms ≡ seated ss → incs (with_member ms s.joiner.inc) ≡ seated (with_seat ss s)
        → incs (if c then record { inc = s.joiner.inc; last = 0 } ∷ m ∷ ms else m ∷ with_member ms s.joiner.inc) ≡ seated (with_seat (x ∷ ss) s)
    go true e a b k = rw (sym e, with_seat) (ap (λ l. s.joiner.inc ∷ l) (ap (λ i. i ∷ incs ms) a ∙ ap (λ l. x.joiner.inc ∷ l) b))
    go false e a b k = rw (sym e, with_seat) (ap (λ i. i ∷ incs (with_member ms s.joiner.inc)) a ∙ ap (λ l. x.joiner.inc ∷ l) k)

seat_gone : (ss : List Seat) (ms : List Member) (i : Inc) → incs ms ≡ seated ss → incs (without ms i) ≡ seated (filter (λ s. not (inc_eq s.joiner.inc i)) ss)
seat_gone [] [] i h = refl
seat_gone [] (m ∷ ms) i h = absurd (cc h)
seat_gone (x ∷ ss) [] i h = absurd (cc h)
seat_gone (x ∷ ss) (m ∷ ms) i h =
    let a : m.inc ≡ x.joiner.inc = cc in
    let b : incs ms ≡ seated ss = cc in
    go (not (inc_eq m.inc i)) (ap (λ k. not (inc_eq k i)) a) a (seat_gone ss ms i b)
  where
    go : (c : Bool) → c ≡ not (inc_eq x.joiner.inc i) → m.inc ≡ x.joiner.inc → incs (without ms i) ≡ seated (filter (λ s. not (inc_eq s.joiner.inc i)) ss)
        → incs (if c then m ∷ without ms i else without ms i) ≡ seated (if not (inc_eq x.joiner.inc i) then x ∷ filter (λ s. not (inc_eq s.joiner.inc i)) ss else filter (λ s. not (inc_eq s.joiner.inc i)) ss)
    go true e a k = rw (sym e) (ap (λ j. j ∷ incs (without ms i)) a ∙ ap (λ l. x.joiner.inc ∷ l) k)
    go false e a k = rw (sym e) k

seat_rises : (ss : List Seat) (i : Inc) → seated (comes_online ss i) ≡ seated ss
seat_rises [] i = refl
seat_rises (s ∷ ss) i = go (inc_eq s.joiner.inc i) (seat_rises ss i)
  where
    go : (b : Bool) → seated (comes_online ss i) ≡ seated ss → seated ((elim b [ true ↦ record s { state = Online } | false ↦ s ]) ∷ comes_online ss i) ≡ seated (s ∷ ss)
    go true k = ap (λ l. s.joiner.inc ∷ l) k
    go false k = ap (λ l. s.joiner.inc ∷ l) k

pub founding_seats : (js : List Joiner) → map {A = Joiner} (λ j. j.inc) js ≡ seated (map {A = Joiner} {B = Seat} (λ j. record { joiner = j; state = Online }) js)
founding_seats [] = refl
founding_seats (j ∷ js) = ap (λ l. j.inc ∷ l) (founding_seats js)

-- ---- what an entry changes

abbrev if_elected : ℕ → View → Bool → View
if_elected p v b = elim b [ true ↦ with_primary p (elect (joiners (online_seats v))) v | false ↦ v ]

pub settled_seats : (p : ℕ) (v : View) → (settled p v).seats ≡ v.seats
settled_seats p v = go (is_single v.mode && not (has_primary v v.primary))
  where
    by : (o : Option Joiner) → (with_primary p o v).seats ≡ v.seats
    by None = refl
    by (Some j) = refl

    go : (b : Bool) → (if_elected p v b).seats ≡ v.seats
    go true = by (elect (joiners (online_seats v)))
    go false = refl

named_seats : (p : ℕ) (o : Option Inc) (v : View) → (with_named p o v).seats ≡ v.seats
named_seats p None v = refl
named_seats p (Some i) v = cond_both (is_online v i) (record v { primary = Some i; elected = p }) v (λ (z : View). z.seats ≡ v.seats) (λ h. refl) (λ h. refl)

-- what a body says leaves the members
said_seats : (p : ℕ) (o : Inc) (x : List ℕ) (b : Option Body) (v : View) → seated (changed_view p o (Says x) b v).seats ≡ seated v.seats
said_seats p o x None v = refl
said_seats p o x (Some (Writes t)) v = refl
said_seats p o x (Some (Prepared g)) v = refl
said_seats p o x (Some Sync) v = refl
said_seats p o x (Some (Executed e)) v = refl
said_seats p o x (Some (Arrives e)) v = seat_rises v.seats o
said_seats p o x (Some (Switches ToMulti)) v = refl
said_seats p o x (Some (Switches (ToSingle i))) v = ap seated (named_seats p i (record v { mode = Single; primary = None }))
said_seats p o x (Some (Appoints i)) v = refl
said_seats p o x (Some (PartOf y)) v = refl

-- one entry more
module _ (v : View) (r : Reading) (same : incs r.members ≡ seated v.seats) (x : Value) (p : ℕ) where
  counted_same : incs (kept r x).members ≡ seated v.seats
  counted_same = incs_counted r.members x.id.origin x.id.number ∙ same

  -- whatever an effect is, what isn't Plain leaves the members
  other_seats : (w : What) (b : Option Body) (e : Effect) → (e ≡ Plain → incs (kept r x).members ≡ seated (changed_view p x.id.origin w b v).seats) → incs (kept r x).members ≡ seated (next_view p x.id.origin w b e v).seats
  other_seats w b Plain h = h refl ∙ sym (ap seated (settled_seats p (changed_view p x.id.origin w b v)))
  other_seats w b Void h = counted_same ∙ sym (ap seated (settled_seats p v))
  other_seats w b Unread h = counted_same ∙ sym (ap seated (settled_seats p v))
  other_seats w b (Positive g) h = counted_same ∙ sym (ap seated (settled_seats p v))
  other_seats w b (Conflict g) h = counted_same ∙ sym (ap seated (settled_seats p v))

  add_seats : (j : Joiner) (b : Bool) → incs (if b then changed (kept r x) (Add j) else kept r x).members ≡ seated (next_view p x.id.origin (Add j) None (void_if (not b)) v).seats
  add_seats j true = seat_put v.seats (record { joiner = j; state = Recovering }) (kept r x).members counted_same ∙ sym (ap seated (settled_seats p (changed_view p x.id.origin (Add j) None v)))
  add_seats j false = counted_same ∙ sym (ap seated (settled_seats p v))

  remove_seats : (i : Inc) (b : Bool) → incs (if b then changed (kept r x) (Remove i) else kept r x).members ≡ seated (next_view p x.id.origin (Remove i) None (void_if (not b)) v).seats
  remove_seats i true = seat_gone v.seats (kept r x).members i counted_same ∙ sym (ap seated (settled_seats p (changed_view p x.id.origin (Remove i) None v)))
  remove_seats i false = counted_same ∙ sym (ap seated (settled_seats p v))

  says_seats : (z : List ℕ) (b : Option Body) (e : Effect) → incs (kept r x).members ≡ seated (next_view p x.id.origin (Says z) b e v).seats
  says_seats z b e = other_seats (Says z) b e (λ h. counted_same ∙ sym (said_seats p x.id.origin z b v))

-- the members of the list after a value that is kept have the seats after its entry
module _ (s : Setup) (l : Life) (r : Reading) (same : incs r.members ≡ seated (view s l).seats) (t p : ℕ) where
  abbrev entered : Value → What → List Seat
  entered x w = (next_view p x.id.origin w (held (open_parts l x.id.origin) w) (effect_of s l (has_effect r w) (record x { what = w }) (open_parts l x.id.origin) (held (open_parts l x.id.origin) w)) (view s l)).seats

  by_what : (x : Value) (w : What) → is_noop w ≡ false → incs (if has_effect r w then changed (kept r x) w else kept r x).members ≡ seated (entered x w)
  by_what x Noop h = absurd (false≢true (sym h))
  by_what x (Add j) h = add_seats (view s l) r same x p j (has_effect r (Add j))
  by_what x (Remove i) h = remove_seats (view s l) r same x p i (has_effect r (Remove i))
  by_what x (Says z) h = says_seats (view s l) r same x p z (held (open_parts l x.id.origin) (Says z)) (effect_of s l true (record x { what = Says z }) (open_parts l x.id.origin) (held (open_parts l x.id.origin) (Says z)))

  pub entry_seats : (x : Value) → is_kept r x ≡ true → incs (read r x).members ≡ seated (view s (Took (entry_of s l t p (has_effect r x.what) x) ∷ l)).seats
  unfolding read
  entry_seats x h = rw h (by_what x x.what (not-true (is_noop x.what) (and_parts (not (is_noop x.what)) _ h).0))
