-- No ask is pending once a Give was taken up; slots rise; and where the list has an entry.
use Rattle.std.proofs.Common.{eqb, eq-eqb, ◌≡◌, ◌⊎◌, inl, inr, ℕ, zero, suc, ◌+◌, ◌≤◌, ◌<◌, Bool, true, false, Some, None, List, [], ◌∷◌, ◌++◌, refl, sym, ap, subst, ◌∙◌, length, arith}
use Rattle.std.specs.Prelude.{◌==◌, if◌then◌else◌}
use Rattle.std.proofs.lemmas.Bool.{false≢true, cases_Bool, eqb-true}
use Rattle.gr_ids.specs.Names.{inc_eq}
use Rattle.gr_ids.specs.declared.names.Inc.{Inc}
use Rattle.slot_values.specs.declared.value.Value.{Value}
use Rattle.slot_values.specs.declared.kept.Kept.{Kept}
use Rattle.slot_values.specs.declared.kept.Kept.TheVariants.{At as KeptAt, Skipped as IsSkipped}
use Rattle.slot_values.specs.Log.{Reading, is_kept, has_effect, became}
use Rattle.node_rules.specs.Lists.{In}
use Rattle.node_rules.specs.World.{Took as NodeTook}
use Rattle.order_laws.specs.Laws.{slots_by}
use Rattle.group_rules.specs.declared.marks.Reply.TheVariants.{Sent as SentAs, Ballot as AtBallot, Asked, Failed, Finished, NotOnline as IsNotOnline, NoAskDue, NoAskPending, NotQueued, AlreadyDone}
use Rattle.group_rules.specs.Events.{Did, Founds, Starts, Came, Made, Took, Skips, Done, Committed, Is, Gave, Answered, Begun, Changed, Replied, Called, AsksCommit, Ends, Enters, Restores, AskFails, Life, Setup}
use Rattle.group_rules.specs.Life.{taken, has_give, entry_at}
use Rattle.group_rules.specs.Legal.{last_slot}
use Rattle.group_rules.specs.Recovery.{pending_ask}
use Rattle.group_rules.specs.World.{Past, Does, Writes, Halts, life_in}
use Rattle.group_rules.specs.OneList.{reading_of, value_at, before_slot, scan_entry, listed_by, listed}
use Rattle.group_bridge.specs.Moves.{slots_in}
use Rattle.group_runs.specs.Runs.{AllDid, IsDone, OfSlots}
use Rattle.node_rules.proofs.Incs.{inc_same, inc_is}
use Rattle.group_order.proofs.Flips.{value_below, value_here, before_above, before_all, before_next}
use Rattle.group_order.proofs.Shapes.{Shape, shapes}
use Rattle.group_order.proofs.Spans.{enters_waits}
use Rattle.group_order.proofs.Nexts.{IsNext}
use Rattle.group_order.proofs.Listed.{listed_place}
use Rattle.group_order.proofs.Begins.{places_rise}

-- ---- asks

ask_over : (t : Setup) (p : Past) (i : Inc) (d : Did) → IsDone t p i d → (has_give (life_in p i) ≡ true → pending_ask (life_in p i) ≡ None) → has_give (d ∷ life_in p i) ≡ true → pending_ask (d ∷ life_in p i) ≡ None
ask_over t p i (Restores g cs) h f y = refl
ask_over t p i AskFails h f y = refl
ask_over t p i (Replied (Asked d)) h f y = absurd (false≢true (sym h.1.1 ∙ y))
ask_over t p i (Took e) h f y = f y
ask_over t p i (Skips s v) h f y = f y
ask_over t p i (Enters w) h f y = f y
ask_over t p i (Replied (SentAs x)) h f z = f z
ask_over t p i (Replied (AtBallot x)) h f z = f z
ask_over t p i (Replied Failed) h f z = f z
ask_over t p i (Replied Finished) h f z = f z
ask_over t p i (Replied (IsNotOnline x)) h f z = f z
ask_over t p i (Replied NoAskDue) h f z = f z
ask_over t p i (Replied NoAskPending) h f z = f z
ask_over t p i (Replied (NotQueued x)) h f z = f z
ask_over t p i (Replied (AlreadyDone x)) h f z = f z
ask_over t p i Founds h f z = f z
ask_over t p i (Starts x) h f z = f z
ask_over t p i (Came x) h f z = f z
ask_over t p i (Made v y) h f z = f z
ask_over t p i (Done n) h f z = f z
ask_over t p i (Committed y) h f z = f z
ask_over t p i (Is s c) h f z = f z
ask_over t p i (Gave n m) h f z = f z
ask_over t p i (Answered s x) h f z = f z
ask_over t p i (Begun s x y) h f z = f z
ask_over t p i (Changed s c) h f z = f z
ask_over t p i (Called s v y) h f z = f z
ask_over t p i (AsksCommit s y) h f z = f z
ask_over t p i (Ends s) h f z = f z

pub asks_over : (t : Setup) (p : Past) → AllDid (IsDone t) p → (i : Inc) → has_give (life_in p i) ≡ true → pending_ask (life_in p i) ≡ None
asks_over t [] h i y = refl
asks_over t (Writes n x ∷ p) h i y = asks_over t p h i y
asks_over t (Halts n ∷ p) h i y = asks_over t p h i y
asks_over t (Does j d ∷ p) h i y = go (inc_eq j i) refl (asks_over t p h.1 i) y
  where
    go : (b : Bool) → inc_eq j i ≡ b → (has_give (life_in p i) ≡ true → pending_ask (life_in p i) ≡ None) → has_give (elim b [ true ↦ d ∷ life_in p i | false ↦ life_in p i ]) ≡ true → pending_ask (elim b [ true ↦ d ∷ life_in p i | false ↦ life_in p i ]) ≡ None
    go true q f z = ask_over t p i d (subst (λ k. IsDone t p k d) (inc_is j i q) h.0) f z
    go false q f z = f z

-- ---- slots rise

in_either : {A : Type 0} (x : A) (xs ys : List A) → In x (xs ++ ys) → In x xs ⊎ In x ys
in_either x [] ys h = inr h
in_either x (y ∷ xs) ys (inl e) = inl (inl e)
in_either x (y ∷ xs) ys (inr h) = elim (in_either x xs ys h) [ inl p ↦ inl (inr p) | inr q ↦ inr q ]

abbrev Below : Life → Type 0
Below l = (s : ℕ) → In s (slots_in l) → s ≤ last_slot l

below_more : (t : Setup) (p : Past) (i : Inc) (d : Did) → IsDone t p i d → OfSlots IsNext p i d → Shape t i (life_in p i) → Below (life_in p i) → Below (d ∷ life_in p i)
below_more t p i (Took e) h n o f s k = elim (in_either s (slots_in (life_in p i)) (e.slot ∷ []) k) [ inl z ↦ (let a = f s z in omega (arith, a, n)) | inr z ↦ elim z [ inl q ↦ omega (arith, q) | inr q ↦ absurd q ] ]
below_more t p i (Skips m v) h n o f s k = elim (in_either s (slots_in (life_in p i)) (m ∷ []) k) [ inl z ↦ (let a = f s z in omega (arith, a, n)) | inr z ↦ elim z [ inl q ↦ omega (arith, q) | inr q ↦ absurd q ] ]
below_more t p i (Enters w) h n o f s k = absurd (subst (λ l. In s l) (enters_waits t p i w h o).slots k)
below_more t p i Founds h n o f s k = f s k
below_more t p i (Starts x) h n o f s k = f s k
below_more t p i (Came x) h n o f s k = f s k
below_more t p i (Made v y) h n o f s k = f s k
below_more t p i (Done y) h n o f s k = f s k
below_more t p i (Committed y) h n o f s k = f s k
below_more t p i (Is y c) h n o f s k = f s k
below_more t p i (Gave y m) h n o f s k = f s k
below_more t p i (Answered y x) h n o f s k = f s k
below_more t p i (Begun z x y) h n o f s k = f s k
below_more t p i (Changed y c) h n o f s k = f s k
below_more t p i (Replied r) h n o f s k = f s k
below_more t p i (Called z v y) h n o f s k = f s k
below_more t p i (AsksCommit z y) h n o f s k = f s k
below_more t p i (Ends y) h n o f s k = f s k
below_more t p i (Restores g cs) h n o f s k = f s k
below_more t p i AskFails h n o f s k = f s k

pub slots_below : (t : Setup) (p : Past) → AllDid (IsDone t) p → AllDid (OfSlots IsNext) p → (i : Inc) → Below (life_in p i)
slots_below t [] h n i = λ s k. absurd k
slots_below t (Writes m x ∷ p) h n i = slots_below t p h n i
slots_below t (Halts m ∷ p) h n i = slots_below t p h n i
slots_below t (Does j d ∷ p) h n i = go (inc_eq j i) refl (slots_below t p h.1 n.1 i)
  where
    go : (b : Bool) → inc_eq j i ≡ b → Below (life_in p i) → Below (elim b [ true ↦ d ∷ life_in p i | false ↦ life_in p i ])
    go true q f = below_more t p i d (subst (λ k. IsDone t p k d) (inc_is j i q) h.0) (subst (λ k. OfSlots IsNext p k d) (inc_is j i q) n.0) (shapes t p h.1 i) f
    go false q f = f

pub slot_by : (y : NodeTook) (ts : List NodeTook) → In y ts → In y.taken.slot (slots_by y.by ts)
slot_by y [] h = absurd h
slot_by y (z ∷ ts) h = go (inc_eq z.by y.by) refl h (slot_by y ts)
  where
    go : (b : Bool) → inc_eq z.by y.by ≡ b → (z ≡ y) ⊎ In y ts → (In y ts → In y.taken.slot (slots_by y.by ts)) → In y.taken.slot (slots_by y.by (z ∷ ts))
    go true e (inl q) k = rw e (inl (ap (λ c. c.taken.slot) q))
    go true e (inr q) k = rw e (inr (k q))
    go false e (inl q) k = absurd (false≢true (sym e ∙ (ap (λ c. inc_eq c.by y.by) q ∙ inc_same y.by)))
    go false e (inr q) k = rw e (k q)

-- ---- values and their slots

pub value_within : (log : List Value) (s : ℕ) (v : Value) → value_at log s ≡ Some v → (0 < s) × (s ≤ length log)
value_within [] s v h = absurd (cc h)
value_within (u ∷ log) s v h = go (cases_Bool (eqb s (suc (length log)))) (value_within log s v)
  where
    go : ((eqb s (suc (length log))) ≡ true) ⊎ ((eqb s (suc (length log))) ≡ false) → (value_at log s ≡ Some v → (0 < s) × (s ≤ length log)) → (0 < s) × (s ≤ suc (length log))
    go (inl q) k = let e : s ≡ suc (length log) = eqb-true s (suc (length log)) q in (omega (arith, e), omega (arith, e))
    go (inr q) k = let z = k (sym (ap (λ b. elim b [ true ↦ Some u | false ↦ value_at log s ]) q) ∙ h) in (z.0, omega (arith, z.1))

-- ---- the entries of the list

read_kept : (r : Reading) (v : Value) (p : ℕ) (b : Bool) → KeptAt p b ≡ became r v → p ≡ r.place + 1
read_kept r v p b h = go (is_kept r v) h
  where
    go : (c : Bool) → KeptAt p b ≡ (if c then KeptAt (r.place + 1) (has_effect r v.what) else IsSkipped) → p ≡ r.place + 1
    go true q = cc
    go false q = absurd (cc q)

-- the reading with a kept value has its place
pub kept_reading : (t : Setup) (log : List Value) (v : Value) (p : ℕ) (b : Bool) → KeptAt p b ≡ became (reading_of t log) v → (reading_of t (v ∷ log)).place ≡ p
kept_reading t log v p b h = sym (listed_place t (v ∷ log)) ∙ ap taken (ap (λ y. listed_by t (listed t log) (suc (length log)) v y) (sym h))

place_in : (t : Setup) (log : List Value) (s : ℕ) (v : Value) (p : ℕ) (b : Bool) → value_at log s ≡ Some v → KeptAt p b ≡ became (reading_of t (before_slot log s)) v → p ≤ (reading_of t log).place
place_in t log zero v p b h k = let z = (value_within log 0 v h).0 in absurd (omega (arith, z))
place_in t log (suc n) v p b h k =
    let with_it : (reading_of t (before_slot log (suc (suc n)))).place ≡ p = ap (λ l. (reading_of t l).place) (before_next log n v h) ∙ kept_reading t (before_slot log (suc n)) v p b k in
    let up = places_rise t log (suc (suc n)) (suc (suc n) + suc (length log)) (omega arith) in
    let all : before_slot log (suc (suc n) + suc (length log)) ≡ log = before_all log (suc (suc n) + suc (length log)) (omega arith) in
    let same : (reading_of t (before_slot log (suc (suc n) + suc (length log)))).place ≡ (reading_of t log).place = ap (λ l. (reading_of t l).place) all in
    omega (arith, with_it, up, same)

-- where a value is kept, the list has its entry
pub listed_entry : (t : Setup) (log : List Value) (s : ℕ) (v : Value) (p : ℕ) (b : Bool) → value_at log s ≡ Some v → KeptAt p b ≡ became (reading_of t (before_slot log s)) v →
    entry_at (listed t log) p ≡ Some (scan_entry t (listed t (before_slot log s)) s p b v)
listed_entry t [] s v p b h k = absurd (cc h)
listed_entry t (u ∷ log) s v p b h k = elim (cases_Bool (eqb s (suc (length log)))) [
  | inl q ↦ at_end (eqb-true s (suc (length log)) q)
  | inr q ↦ (let z = value_within (u ∷ log) s v h in let n = not_equal q in later (omega (arith, z.1, n)) (λ a c. listed_entry t log s v p b a c))
]
  where
    not_equal : eqb s (suc (length log)) ≡ false → s ≡ suc (length log) → ⊥
    not_equal q e = absurd (false≢true (sym q ∙ eq-eqb s (suc (length log)) e))

    at_end : s ≡ suc (length log) → entry_at (listed t (u ∷ log)) p ≡ Some (scan_entry t (listed t (before_slot (u ∷ log) s)) s p b v)
    at_end e =
        let whole : before_slot (u ∷ log) s ≡ log = before_above u log s (omega (arith, e)) ∙ before_all log s (omega (arith, e)) in
        let uv0 : Some u ≡ Some v = sym (value_here u log) ∙ (ap (λ n. value_at (u ∷ log) n) (sym e) ∙ h) in
        let uv : u ≡ v = cc in
        let kept_u : KeptAt p b ≡ became (reading_of t log) u = k ∙ (ap (λ l. became (reading_of t l) v) whole ∙ ap (λ y. became (reading_of t log) y) (sym uv)) in
        ap (λ l. entry_at l p) (ap (λ y. listed_by t (listed t log) (suc (length log)) u y) (sym kept_u))
        ∙ (ap (λ c. elim c [ true ↦ Some (scan_entry t (listed t log) (suc (length log)) p b u) | false ↦ entry_at (listed t log) p ]) (eq-eqb p p refl)
        ∙ (ap (λ y. Some (scan_entry t (listed t log) (suc (length log)) p b y)) uv
        ∙ (ap (λ n. Some (scan_entry t (listed t log) n p b v)) (sym e) ∙ ap (λ l. Some (scan_entry t (listed t l) s p b v)) (sym whole))))

    later : s ≤ length log → (value_at log s ≡ Some v → KeptAt p b ≡ became (reading_of t (before_slot log s)) v → entry_at (listed t log) p ≡ Some (scan_entry t (listed t (before_slot log s)) s p b v)) → entry_at (listed t (u ∷ log)) p ≡ Some (scan_entry t (listed t (before_slot (u ∷ log) s)) s p b v)
    later le f = go (became (reading_of t log) u) refl
      where
        before : before_slot (u ∷ log) s ≡ before_slot log s
        before = before_above u log s (omega (arith, le))

        value : value_at log s ≡ Some v
        value = sym (value_below u log s le) ∙ h

        kept_here : KeptAt p b ≡ became (reading_of t (before_slot log s)) v
        kept_here = k ∙ ap (λ l. became (reading_of t l) v) before

        there : entry_at (listed t log) p ≡ Some (scan_entry t (listed t (before_slot (u ∷ log) s)) s p b v)
        there = f value kept_here ∙ ap (λ l. Some (scan_entry t (listed t l) s p b v)) (sym before)

        -- its place is one of those before
        place : p ≤ (reading_of t log).place
        place = place_in t log s v p b value kept_here

        go : (y : Kept) → became (reading_of t log) u ≡ y → entry_at (listed_by t (listed t log) (suc (length log)) u y) p ≡ Some (scan_entry t (listed t (before_slot (u ∷ log) s)) s p b v)
        go IsSkipped e = there
        go (KeptAt m c) e = ap (λ z. elim z [ true ↦ Some (scan_entry t (listed t log) (suc (length log)) m c u) | false ↦ entry_at (listed t log) p ]) other ∙ there
          where
            other : (m == p) ≡ false
            other = elim (cases_Bool (eqb m p)) [ inl q ↦ (let z = eqb-true m p q in let y = read_kept (reading_of t log) u m c (sym e) in absurd (omega (arith, z, y, place))) | inr q ↦ q ]
