-- The list that a log gives: its places, its members, and the parts that are open.
use Rattle.std.proofs.Common.{◌≡◌, inl, inr, ℕ, suc, ◌+◌, Bool, true, false, cond, not, ◌&&◌, Option, Some, None, List, [], ◌∷◌, refl, sym, ap, ◌∙◌, length, map}
use Rattle.std.specs.Prelude.{filter, if◌then◌else◌}
use Rattle.std.proofs.lemmas.Bool.{false≢true, cases_Bool, cond_both, and_parts, not-true}
use Rattle.gr_ids.specs.Names.{inc_eq, inc_lt, has_inc}
use Rattle.gr_ids.specs.declared.names.Inc.{Inc}
use Rattle.gr_ids.specs.declared.names.OpenParts.{OpenParts}
use Rattle.gr_ids.specs.declared.levels.MemberState.TheVariants.{Online, Recovering}
use Rattle.gr_ids.specs.declared.levels.Mode.TheVariants.{Single}
use Rattle.node_rules.specs.declared.seat.Seat.{Seat}
use Rattle.slot_values.specs.declared.value.Joiner.{Joiner}
use Rattle.slot_values.specs.declared.value.Value.{Value}
use Rattle.slot_values.specs.declared.value.What.{What}
use Rattle.slot_values.specs.declared.value.What.TheVariants.{Noop, Add, Remove, Body as Says}
use Rattle.slot_values.specs.Values.{is_noop}
use Rattle.slot_values.specs.declared.member.Member.{Member}
use Rattle.slot_values.specs.declared.kept.Kept.TheVariants.{At as KeptAt, Skipped as IsSkipped}
use Rattle.slot_values.specs.Log.{Reading, with_inc, incs, is_kept, has_effect, counted, with_member, without, kept, changed, read}
use Rattle.txn_forms.specs.declared.body.Body.{Body}
use Rattle.txn_forms.specs.declared.body.Body.TheVariants.{Txn as Writes, Prepared, Sync, Executed, Online as Arrives, Mode as Switches, Primary as Appoints, Part as PartOf}
use Rattle.txn_forms.specs.declared.body.ModeChange.TheVariants.{Multi as ToMulti, Single as ToSingle}
use Rattle.group_rules.specs.declared.marks.Effect.{Effect}
use Rattle.group_rules.specs.declared.marks.Effect.TheVariants.{Plain, Void, Unread, Positive, Conflict}
use Rattle.group_rules.specs.Events.{Life, Setup}
use Rattle.group_rules.specs.Life.{view, taken}
use Rattle.group_rules.specs.View.{View, seated, is_single, has_primary, settled, with_primary, elect, joiners, online_seats, with_seat, comes_online, with_named, is_online, changed_view, next_view, void_if}
use Rattle.group_rules.specs.Parts.{open_parts, held}
use Rattle.group_rules.specs.OneList.{reading_of, scan_effect, listed_by, listed}
use Rattle.group_order.proofs.Adds.{with_more}

-- ---- places

pub listed_place : (t : Setup) (log : List Value) → taken (listed t log) ≡ (reading_of t log).place
unfolding read
listed_place t [] = refl
listed_place t (v ∷ log) = go (is_kept (reading_of t log) v) refl (listed_place t log)
  where
    effect_place : (b : Bool) (w : What) → (cond b (changed (kept (reading_of t log) v) w) (kept (reading_of t log) v)).place ≡ (reading_of t log).place + 1
    effect_place true Noop = refl
    effect_place true (Add j) = refl
    effect_place true (Remove i) = refl
    effect_place true (Says x) = refl
    effect_place false w = refl

    go : (b : Bool) → is_kept (reading_of t log) v ≡ b → taken (listed t log) ≡ (reading_of t log).place → taken (listed_by t (listed t log) (suc (length log)) v (if b then KeptAt ((reading_of t log).place + 1) (has_effect (reading_of t log) v.what) else IsSkipped)) ≡ (if b then (if has_effect (reading_of t log) v.what then changed (kept (reading_of t log) v) v.what else kept (reading_of t log) v) else reading_of t log).place
    go true h k = sym (effect_place (has_effect (reading_of t log) v.what) v.what)
    go false h k = k

-- ---- members

pub counted_incs : (ms : List Member) (i : Inc) (n : ℕ) → incs (counted ms i n) ≡ incs ms
counted_incs [] i n = refl
counted_incs (m ∷ ms) i n = ap (λ l. m.inc ∷ l) (counted_incs ms i n)

abbrev if_elected : ℕ → View → Bool → View
if_elected p v b = elim b [ true ↦ with_primary p (elect (joiners (online_seats v))) v | false ↦ v ]

settled_seats : (p : ℕ) (v : View) → (settled p v).seats ≡ v.seats
settled_seats p v = go (is_single v.mode && not (has_primary v v.primary))
  where
    by : (o : Option Joiner) → (with_primary p o v).seats ≡ v.seats
    by None = refl
    by (Some j) = refl

    go : (b : Bool) → (if_elected p v b).seats ≡ v.seats
    go true = by (elect (joiners (online_seats v)))
    go false = refl

-- those of seats and of members that are put in the same place
seat_put : (ss : List Seat) (s : Seat) (ms : List Member) → seated ss ≡ incs ms → seated (with_seat ss s) ≡ incs (with_member ms s.joiner.inc)
seat_put [] s [] h = refl
seat_put [] s (m ∷ ms) h = absurd (cc h)
seat_put (x ∷ ss) s [] h = absurd (cc h)
seat_put (x ∷ ss) s (m ∷ ms) h =
    let a : x.joiner.inc ≡ m.inc = cc in
    let b : seated ss ≡ incs ms = cc in
    go (inc_lt s.joiner.inc x.joiner.inc) (ap (λ i. inc_lt s.joiner.inc i) a) a b (seat_put ss s ms b)
  where
    go : (c : Bool) → c ≡ inc_lt s.joiner.inc m.inc → x.joiner.inc ≡ m.inc → seated ss ≡ incs ms → seated (with_seat ss s) ≡ incs (with_member ms s.joiner.inc) →
        seated (elim c [ true ↦ s ∷ x ∷ ss | false ↦ x ∷ with_seat ss s ]) ≡ incs (if inc_lt s.joiner.inc m.inc then record { inc = s.joiner.inc; last = 0 } ∷ m ∷ ms else m ∷ with_member ms s.joiner.inc)
    go true e a b k = rw (sym e) (ap (λ l. s.joiner.inc ∷ l) (ap (λ i. i ∷ seated ss) a ∙ ap (λ l. m.inc ∷ l) b))
    go false e a b k = rw (sym e) (ap (λ i. i ∷ seated (with_seat ss s)) a ∙ ap (λ l. m.inc ∷ l) k)

seat_gone : (ss : List Seat) (ms : List Member) (i : Inc) → seated ss ≡ incs ms → seated (filter (λ s. not (inc_eq s.joiner.inc i)) ss) ≡ incs (without ms i)
seat_gone [] [] i h = refl
seat_gone [] (m ∷ ms) i h = absurd (cc h)
seat_gone (x ∷ ss) [] i h = absurd (cc h)
seat_gone (x ∷ ss) (m ∷ ms) i h =
    let a : x.joiner.inc ≡ m.inc = cc in
    let b : seated ss ≡ incs ms = cc in
    go (not (inc_eq x.joiner.inc i)) (ap (λ k. not (inc_eq k i)) a) a (seat_gone ss ms i b)
  where
    go : (c : Bool) → c ≡ not (inc_eq m.inc i) → x.joiner.inc ≡ m.inc → seated (filter (λ s. not (inc_eq s.joiner.inc i)) ss) ≡ incs (without ms i) →
        seated (if c then x ∷ filter (λ s. not (inc_eq s.joiner.inc i)) ss else filter (λ s. not (inc_eq s.joiner.inc i)) ss) ≡ incs (if not (inc_eq m.inc i) then m ∷ without ms i else without ms i)
    go true e a k = rw (sym e) (ap (λ j. j ∷ seated (filter (λ s. not (inc_eq s.joiner.inc i)) ss)) a ∙ ap (λ l. m.inc ∷ l) k)
    go false e a k = rw (sym e) k

seat_rises : (ss : List Seat) (i : Inc) → seated (comes_online ss i) ≡ seated ss
seat_rises [] i = refl
seat_rises (s ∷ ss) i = go (inc_eq s.joiner.inc i) (seat_rises ss i)
  where
    go : (b : Bool) → seated (comes_online ss i) ≡ seated ss → seated ((elim b [ true ↦ record s { state = Online } | false ↦ s ]) ∷ comes_online ss i) ≡ seated (s ∷ ss)
    go true k = ap (λ l. s.joiner.inc ∷ l) k
    go false k = ap (λ l. s.joiner.inc ∷ l) k

named_seats : (p : ℕ) (o : Option Inc) (v : View) → (with_named p o v).seats ≡ v.seats
named_seats p None v = refl
named_seats p (Some i) v = cond_both (is_online v i) (record v { primary = Some i; elected = p }) v (λ (z : View). z.seats ≡ v.seats) (λ h. refl) (λ h. refl)

-- what a body says leaves the members
said_seats : (p : ℕ) (o : Inc) (x : List ℕ) (b : Option Body) (v : View) → seated (changed_view p o (Says x) b v).seats ≡ seated v.seats
said_seats p o x None v = refl
said_seats p o x (Some (Writes t)) v = refl
said_seats p o x (Some (Prepared g)) v = refl
said_seats p o x (Some Sync) v = refl
said_seats p o x (Some (Executed e)) v = refl
said_seats p o x (Some (Arrives e)) v = seat_rises v.seats o
said_seats p o x (Some (Switches ToMulti)) v = refl
said_seats p o x (Some (Switches (ToSingle i))) v = ap seated (named_seats p i (record v { mode = Single; primary = None }))
said_seats p o x (Some (Appoints i)) v = refl
said_seats p o x (Some (PartOf y)) v = refl

founding_seats : (js : List Joiner) → seated (map {A = Joiner} (λ j. record { joiner = j; state = Online }) js) ≡ incs (map {A = Inc} (λ i. record { inc = i; last = 0 }) (map {A = Joiner} (λ j. j.inc) js))
founding_seats [] = refl
founding_seats (j ∷ js) = ap (λ l. j.inc ∷ l) (founding_seats js)

-- one entry more
module _ (t : Setup) (l : Life) (r : Reading) (same : seated (view t l).seats ≡ incs r.members) (v : Value) (p : ℕ) (op : Option OpenParts) where
  abbrev V : View
  V = view t l

  abbrev as_what : What → Value
  as_what u = record { id = v.id; what = u }

  counted_same : seated (view t l).seats ≡ incs (kept r v).members
  counted_same = same ∙ sym (counted_incs r.members v.id.origin v.id.number)

  -- whatever an effect is, what isn't Plain leaves the members
  other_seats : (w : What) (b : Option Body) (e : Effect) → (e ≡ Plain → seated (changed_view p v.id.origin w b (view t l)).seats ≡ incs (kept r v).members) → seated (next_view p v.id.origin w b e (view t l)).seats ≡ incs (kept r v).members
  other_seats w b Plain h = ap seated (settled_seats p (changed_view p v.id.origin w b (view t l))) ∙ h refl
  other_seats w b Void h = ap seated (settled_seats p (view t l)) ∙ counted_same
  other_seats w b Unread h = ap seated (settled_seats p (view t l)) ∙ counted_same
  other_seats w b (Positive g) h = ap seated (settled_seats p (view t l)) ∙ counted_same
  other_seats w b (Conflict g) h = ap seated (settled_seats p (view t l)) ∙ counted_same

  add_seats : (j : Joiner) (b : Bool) → seated (next_view p v.id.origin (Add j) None (void_if (not b)) (view t l)).seats ≡ incs (if b then changed (kept r v) (Add j) else kept r v).members
  add_seats j true = ap seated (settled_seats p (changed_view p v.id.origin (Add j) None (view t l))) ∙ seat_put (view t l).seats (record { joiner = j; state = Recovering }) (kept r v).members counted_same
  add_seats j false = ap seated (settled_seats p (view t l)) ∙ counted_same

  remove_seats : (i : Inc) (b : Bool) → seated (next_view p v.id.origin (Remove i) None (void_if (not b)) (view t l)).seats ≡ incs (if b then changed (kept r v) (Remove i) else kept r v).members
  remove_seats i true = ap seated (settled_seats p (changed_view p v.id.origin (Remove i) None (view t l))) ∙ seat_gone (view t l).seats (kept r v).members i counted_same
  remove_seats i false = ap seated (settled_seats p (view t l)) ∙ counted_same

  says_seats : (x : List ℕ) (e : Effect) → seated (next_view p v.id.origin (Says x) (held op (Says x)) e (view t l)).seats ≡ incs (kept r v).members
  says_seats x e = other_seats (Says x) (held op (Says x)) e (λ h. said_seats p v.id.origin x (held op (Says x)) (view t l) ∙ counted_same)

  entry_seats : (u : What) → is_noop u ≡ false → seated (next_view p v.id.origin u (held op u) (scan_effect t l (has_effect r u) (as_what u) op (held op u)) (view t l)).seats ≡ incs (if has_effect r u then changed (kept r v) u else kept r v).members
  entry_seats (Add j) h = add_seats j (has_effect r (Add j))
  entry_seats (Remove i) h = remove_seats i (has_effect r (Remove i))
  entry_seats (Says x) h = says_seats x (scan_effect t l true (as_what (Says x)) op (held op (Says x)))
  entry_seats Noop h = absurd (false≢true (sym h))

-- the members by the view are those of the kept list
pub listed_seats : (t : Setup) (log : List Value) → seated (view t (listed t log)).seats ≡ incs (reading_of t log).members
unfolding read
listed_seats t [] = ap seated (settled_seats 0 (record { number = 1; mode = t.mode; primary = None; elected = 0; seats = map {A = Joiner} (λ j. record { joiner = j; state = Online }) t.founders })) ∙ founding_seats t.founders
listed_seats t (v ∷ log) = go (is_kept (reading_of t log) v) refl (listed_seats t log)
  where
    go : (b : Bool) → is_kept (reading_of t log) v ≡ b → seated (view t (listed t log)).seats ≡ incs (reading_of t log).members →
        seated (view t (listed_by t (listed t log) (suc (length log)) v (if b then KeptAt ((reading_of t log).place + 1) (has_effect (reading_of t log) v.what) else IsSkipped))).seats ≡ incs (if b then (if has_effect (reading_of t log) v.what then changed (kept (reading_of t log) v) v.what else kept (reading_of t log) v) else reading_of t log).members
    go true h k = entry_seats t (listed t log) (reading_of t log) k v ((reading_of t log).place + 1) (open_parts (listed t log) v.id.origin) v.what (not_noop h)
      where
        not_noop : is_kept (reading_of t log) v ≡ true → is_noop v.what ≡ false
        not_noop q = not-true (is_noop v.what) (and_parts (not (is_noop v.what)) _ q).0
    go false h k = k

-- ---- those who ever were members

pub with_inc_more : (xs : List Inc) (i j : Inc) → has_inc (with_inc xs i) j ≡ false → has_inc xs j ≡ false
with_inc_more xs i j h = elim (cases_Bool (has_inc xs j)) [ inl q ↦ absurd (false≢true (sym h ∙ with_more xs i j q)) | inr q ↦ q ]
