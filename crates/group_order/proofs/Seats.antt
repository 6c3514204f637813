-- The members of a log are distinct, so what a Welcome tells of each seat is that seat.
use Rattle.std.proofs.Common.{◌≡◌, inl, inr, Bool, true, false, not, List, [], ◌∷◌, refl, sym, ap, subst, ◌∙◌, map}
use Rattle.std.specs.Prelude.{if◌then◌else◌}
use Rattle.std.proofs.lemmas.Bool.{false≢true, cases_Bool, and_parts, not-true}
use Rattle.gr_ids.specs.Names.{inc_eq, inc_lt, has_inc}
use Rattle.gr_ids.specs.declared.names.Inc.{Inc}
use Rattle.node_rules.specs.declared.seat.Seat.{Seat}
use Rattle.node_rules.specs.Lists.{In}
use Rattle.slot_values.specs.declared.value.Joiner.{Joiner}
use Rattle.slot_values.specs.declared.value.Value.{Value}
use Rattle.slot_values.specs.declared.value.What.{What}
use Rattle.slot_values.specs.declared.value.What.TheVariants.{Noop, Add, Remove, Body as Says}
use Rattle.slot_values.specs.declared.member.Member.{Member}
use Rattle.slot_values.specs.Log.{incs, has_effect, with_member, without, kept, changed, read}
use Rattle.group_rules.specs.Events.{Setup}
use Rattle.group_rules.specs.View.{seated, seat_in}
use Rattle.group_rules.specs.OneList.{reading_of}
use Rattle.group_runs.specs.Runs.{Apart, IsSetup}
use Rattle.group_order.specs.OneLog.{is_member_of}
use Rattle.node_rules.proofs.Incs.{inc_same, inc_is}
use Rattle.group_order.proofs.Adds.{or_parts, or_first, or_second}
use Rattle.group_order.proofs.Listed.{counted_incs}
use Rattle.group_order.proofs.Members.{by_read, counted_has, member_put, member_left, members_were}

-- ---- distinct

abbrev pub Distinct : List Inc → Type 0
Distinct [] = Unit {0}
Distinct (i ∷ is) = (has_inc is i ≡ false) × Distinct is

-- what is not in the list that another is part of
not_in : (b c : Bool) → (b ≡ true → c ≡ true) → c ≡ false → b ≡ false
not_in true c f h = absurd (false≢true (sym h ∙ f refl))
not_in false c f h = refl

distinct_put : (ms : List Member) (i : Inc) → has_inc (incs ms) i ≡ false → Distinct (incs ms) → Distinct (incs (with_member ms i))
distinct_put [] i n d = (refl, tt)
distinct_put (m ∷ ms) i n d = go (inc_lt i m.inc) (distinct_put ms i rest d.1)
  where
    rest : has_inc (incs ms) i ≡ false
    rest = not_in (has_inc (incs ms) i) (has_inc (incs (m ∷ ms)) i) (λ h. or_second (inc_eq m.inc i) (has_inc (incs ms) i) h) n

    apart : inc_eq m.inc i ≡ false
    apart = not_in (inc_eq m.inc i) (has_inc (incs (m ∷ ms)) i) (λ h. or_first (inc_eq m.inc i) (has_inc (incs ms) i) h) n

    apart_too : (inc_eq i m.inc ≡ true) → ⊥
    apart_too h = absurd (false≢true (sym apart ∙ subst (λ y. inc_eq y i ≡ true) (inc_is i m.inc h) (inc_same i)))

    go : (b : Bool) → Distinct (incs (with_member ms i)) → Distinct (incs (if b then record { inc = i; last = 0 } ∷ m ∷ ms else m ∷ with_member ms i))
    go true k = (n, d)
    go false k = (not_in (has_inc (incs (with_member ms i)) m.inc) (has_inc (incs ms) m.inc) (λ h. elim (member_put ms i m.inc h) [ inl z ↦ absurd (apart_too z) | inr z ↦ z ]) d.0, k)

distinct_left : (ms : List Member) (i : Inc) → Distinct (incs ms) → Distinct (incs (without ms i))
distinct_left [] i d = tt
distinct_left (m ∷ ms) i d = go (not (inc_eq m.inc i)) (distinct_left ms i d.1)
  where
    go : (b : Bool) → Distinct (incs (without ms i)) → Distinct (incs (if b then m ∷ without ms i else without ms i))
    go true k = (not_in (has_inc (incs (without ms i)) m.inc) (has_inc (incs ms) m.inc) (λ h. member_left ms i m.inc h) d.0, k)
    go false k = k

-- ---- the founders

founder_incs : (js : List Joiner) → incs (map {A = Inc} (λ i. record { inc = i; last = 0 }) (map {A = Joiner} (λ j. j.inc) js)) ≡ map {A = Joiner} (λ j. j.inc) js
founder_incs [] = refl
founder_incs (j ∷ js) = ap (λ l. j.inc ∷ l) (founder_incs js)

founder_apart : (js : List Joiner) (i : Inc) → ((k : Joiner) → In k js → k.inc.server ≡ i.server → ⊥) → has_inc (map {A = Joiner} (λ j. j.inc) js) i ≡ false
founder_apart [] i f = refl
founder_apart (j ∷ js) i f = elim (cases_Bool (has_inc (map {A = Joiner} (λ j. j.inc) (j ∷ js)) i)) [
  | inl h ↦ elim (or_parts (inc_eq j.inc i) (has_inc (map {A = Joiner} (λ j. j.inc) js) i) h) [
    | inl z ↦ absurd (f j (inl refl) (ap (λ y. y.server) (inc_is j.inc i z)))
    | inr z ↦ absurd (false≢true (sym (founder_apart js i (λ k q. f k (inr q))) ∙ z))
  ]
  | inr h ↦ h
]

founders_distinct : (js : List Joiner) → Apart js → Distinct (map {A = Joiner} (λ j. j.inc) js)
founders_distinct [] a = tt
founders_distinct (j ∷ js) a = (founder_apart js j.inc a.0, founders_distinct js a.1)

-- one value more
distinct_more : (t : Setup) (log : List Value) (v : Value) → Distinct (incs (reading_of t log).members) → Distinct (incs (read (reading_of t log) v).members)
distinct_more t log v d = by_read (λ z. Distinct (incs z.members)) v (reading_of t log) (λ a. d) (λ a b. same) (λ a b. by_what v.what refl b)
  where
    same : Distinct (incs (kept (reading_of t log) v).members)
    same = subst (λ l. Distinct l) (sym (counted_incs (reading_of t log).members v.id.origin v.id.number)) d

    new : (j : Joiner) → has_effect (reading_of t log) (Add j) ≡ true → has_inc (incs (kept (reading_of t log) v).members) j.inc ≡ false
    new j e = counted_has (reading_of t log) v j.inc ∙ not_in (is_member_of (reading_of t log) j.inc) (has_inc (reading_of t log).ever j.inc) (members_were t log j.inc) (not-true (has_inc (reading_of t log).ever j.inc) (and_parts _ (not (has_inc (reading_of t log).ever j.inc)) e).1)

    by_what : (w : What) → v.what ≡ w → has_effect (reading_of t log) v.what ≡ true → Distinct (incs (changed (kept (reading_of t log) v) v.what).members)
    by_what (Add j) q e = subst (λ y. Distinct (incs (changed (kept (reading_of t log) v) y).members)) (sym q) (distinct_put (kept (reading_of t log) v).members j.inc (new j (subst (λ y. has_effect (reading_of t log) y ≡ true) q e)) same)
    by_what (Remove i) q e = subst (λ y. Distinct (incs (changed (kept (reading_of t log) v) y).members)) (sym q) (distinct_left (kept (reading_of t log) v).members i same)
    by_what Noop q e = subst (λ y. Distinct (incs (changed (kept (reading_of t log) v) y).members)) (sym q) same
    by_what (Says x) q e = subst (λ y. Distinct (incs (changed (kept (reading_of t log) v) y).members)) (sym q) same

pub members_distinct : (t : Setup) → IsSetup t → (log : List Value) → Distinct (incs (reading_of t log).members)
members_distinct t good [] = subst (λ l. Distinct l) (sym (founder_incs t.founders)) (founders_distinct t.founders good.apart)
members_distinct t good (v ∷ log) = distinct_more t log v (members_distinct t good log)

-- ---- what a Welcome tells of the seats

abbrev pub told_seat : (Inc → Seat) → Member → Seat
told_seat f m = record { joiner = record (f m.inc).joiner { inc = m.inc }; state = (f m.inc).state }

seat_found : (s : Seat) (ss : List Seat) → seat_in (s ∷ ss) s.joiner.inc ≡ s
seat_found s ss = ap (λ b. elim b [ true ↦ s | false ↦ seat_in ss s.joiner.inc ]) (inc_same s.joiner.inc)

seat_passed : (s : Seat) (ss : List Seat) (i : Inc) → inc_eq s.joiner.inc i ≡ false → seat_in (s ∷ ss) i ≡ seat_in ss i
seat_passed s ss i h = ap (λ b. elim b [ true ↦ s | false ↦ seat_in ss i ]) h

-- the same of a reading that agrees on these
told_alike : (f g : Inc → Seat) (ms : List Member) → ((i : Inc) → has_inc (incs ms) i ≡ true → f i ≡ g i) → map (told_seat f) ms ≡ map (told_seat g) ms
told_alike f g [] h = refl
told_alike f g (m ∷ ms) h =
    ap (λ s. record { joiner = record s.joiner { inc = m.inc }; state = s.state } ∷ map (told_seat f) ms) (h m.inc (or_first (inc_eq m.inc m.inc) (has_inc (incs ms) m.inc) (inc_same m.inc)))
    ∙ ap (λ l. told_seat g m ∷ l) (told_alike f g ms (λ i q. h i (or_second (inc_eq m.inc i) (has_inc (incs ms) i) q)))

pub seats_told : (ss : List Seat) (ms : List Member) → incs ms ≡ seated ss → Distinct (seated ss) → map (told_seat (seat_in ss)) ms ≡ ss
seats_told [] [] h d = refl
seats_told [] (m ∷ ms) h d = absurd (cc h)
seats_told (s ∷ ss) [] h d = absurd (cc h)
seats_told (s ∷ ss) (m ∷ ms) h d =
    let a : m.inc ≡ s.joiner.inc = cc in
    let b : incs ms ≡ seated ss = cc in
    ap (λ x. x ∷ map (told_seat (seat_in (s ∷ ss))) ms) (first a)
    ∙ ap (λ l. s ∷ l) (told_alike (seat_in (s ∷ ss)) (seat_in ss) ms (λ i q. seat_passed s ss i (other i (subst (λ l. has_inc l i ≡ true) b q))) ∙ seats_told ss ms b d.1)
  where
    first : m.inc ≡ s.joiner.inc → told_seat (seat_in (s ∷ ss)) m ≡ s
    first a = ap (λ i. record { joiner = record (seat_in (s ∷ ss) i).joiner { inc = i }; state = (seat_in (s ∷ ss) i).state }) a ∙ ap (λ x. record { joiner = record x.joiner { inc = s.joiner.inc }; state = x.state }) (seat_found s ss)

    other : (i : Inc) → has_inc (seated ss) i ≡ true → inc_eq s.joiner.inc i ≡ false
    other i q = elim (cases_Bool (inc_eq s.joiner.inc i)) [ inl z ↦ absurd (false≢true (sym d.0 ∙ subst (λ y. has_inc (seated ss) y ≡ true) (sym (inc_is s.joiner.inc i z)) q)) | inr z ↦ z ]
