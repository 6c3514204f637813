-- The slots that were taken in a run of the nodes are those of one log.
use Rattle.std.proofs.Common.{leb, ◌≡◌, inl, inr, suc, ◌≤◌, ◌<◌, Bool, true, false, Some, None, List, [], ◌∷◌, ◌++◌, refl, sym, ap, subst, ◌∙◌, length, take, length-append, arith}
use Rattle.std.specs.Prelude.{slice_get}
use Rattle.std.proofs.lemmas.Bool.{leb-true, leb-false}
use Rattle.slot_values.specs.declared.value.Value.{Value}
use Rattle.slot_values.specs.Log.{Group, after, became}
use Rattle.node_rules.specs.Lists.{In}
use Rattle.node_rules.specs.Chosen.{IsChosenLog}
use Rattle.node_rules.specs.World as nodes
use Rattle.order_laws.specs.Laws.{InEveryRun, OneLog, KeptAsInLog}
use Rattle.gr_ids.specs.declared.names.Inc.{Inc}
use Rattle.group_rules.specs.Events.{Did, Founds, Starts, Came, Made, Took, Skips, Done, Committed, Is, Gave, Answered, Begun, Changed, Replied, Called, AsksCommit, Ends, Enters, Restores, AskFails, Setup}
use Rattle.group_rules.specs.World.{Past, Does, Writes, Halts}
use Rattle.group_rules.specs.Steps.{group_of}
use Rattle.group_rules.specs.OneList.{reading_of, value_at, before_slot}
use Rattle.group_runs.specs.Runs.{as_sent, IsSetup, IsNodeRun, AllDid, TookIn, OfSlots}
use Rattle.group_order.specs.OneLog.{OnLog, LeftBy}
use Rattle.group_order.proofs.Flips.{flip, flip_flip, flip_length, read_flip, get_flip, take_flip, front_of, get_take, take_less, take_whole, get_end}

pub record LogOf (t : Setup) (v : nodes.World) (log : List Value) : Type 0 where
  pub chosen : IsChosenLog (group_of t) v.cast (flip log)
  pub took : (y : nodes.Took) → In y v.took → OnLog t log y.taken
  pub no_longer : (0 < length log) → (y : nodes.Took) × In y v.took × (y.taken.slot ≡ length log)

-- the one of the greatest slot
greatest : (x : nodes.Took) (xs : List nodes.Took) → (y : nodes.Took) × In y (x ∷ xs) × ((z : nodes.Took) → In z (x ∷ xs) → z.taken.slot ≤ y.taken.slot)
greatest x [] = (x, inl refl, λ z h. elim h [ inl e ↦ omega (arith, ap (λ c. c.taken.slot) e) | inr e ↦ absurd e ])
greatest x (w ∷ xs) = let r = greatest w xs in go r.0 r.1 r.2 (leb (r.0).taken.slot x.taken.slot) refl
  where
    go : (y : nodes.Took) → In y (w ∷ xs) → ((z : nodes.Took) → In z (w ∷ xs) → z.taken.slot ≤ y.taken.slot) → (b : Bool) → leb y.taken.slot x.taken.slot ≡ b → (y : nodes.Took) × In y (x ∷ w ∷ xs) × ((z : nodes.Took) → In z (x ∷ w ∷ xs) → z.taken.slot ≤ y.taken.slot)
    go y h f true q = (x, inl refl, λ z k. elim k [ inl e ↦ omega (arith, ap (λ c. c.taken.slot) e) | inr e ↦ (let a = f z e in let b = leb-true y.taken.slot x.taken.slot q in omega (arith, a, b)) ])
    go y h f false q = (y, inr h, λ z k. elim k [ inl e ↦ (let b = leb-false y.taken.slot x.taken.slot q in omega (arith, ap (λ c. c.taken.slot) e, b)) | inr e ↦ f z e ])

module _ (t : Setup) (good : IsSetup t) (v : nodes.World) (run : IsNodeRun t v) (one : InEveryRun OneLog) (kept : InEveryRun KeptAsInLog) where
  abbrev g : Group
  g = group_of t

  kept_here : KeptAsInLog (group_of t) v
  kept_here = subst (λ w. KeptAsInLog (group_of t) w) (sym run.1) (kept as_sent (λ ms m k. k) (group_of t) run.0 good.horizon)

  one_here : OneLog (group_of t) v
  one_here = subst (λ w. OneLog (group_of t) w) (sym run.1) (one as_sent (λ ms m k. k) (group_of t) run.0 good.horizon)

  -- two logs of chosen values: the shorter one is the beginning of the longer one
  pub shorter : (xs ys : List Value) → IsChosenLog (group_of t) v.cast xs → IsChosenLog (group_of t) v.cast ys → length ys ≤ length xs → ys ≡ take (length ys) xs
  shorter xs ys p q h = front_of xs ys h (λ k a b c d. one_here xs ys p q k a b c d)

  -- what was taken no later than the end of a log
  on_log : (xs : List Value) → IsChosenLog (group_of t) v.cast xs → (y : nodes.Took) → In y v.took → y.taken.slot ≤ length xs → OnLog t (flip xs) y.taken
  on_log xs p y h le = record { before = length log; slot = slot; within = within; value = value; kept = is_kept }
    where
      log : List Value
      log = (kept_here y h).0

      slot : y.taken.slot ≡ suc (length (kept_here y h).0)
      slot = let e = (kept_here y h).2 in omega (arith, e)

      ys : List Value
      ys = (kept_here y h).0 ++ y.taken.value ∷ []

      len : length ((kept_here y h).0 ++ y.taken.value ∷ []) ≡ suc (length (kept_here y h).0)
      len = let e = length-append (kept_here y h).0 (y.taken.value ∷ []) in omega (arith, e)

      is_front : (kept_here y h).0 ++ y.taken.value ∷ [] ≡ take (length ((kept_here y h).0 ++ y.taken.value ∷ [])) xs
      is_front = shorter xs ((kept_here y h).0 ++ y.taken.value ∷ []) p (kept_here y h).5 (omega (arith, len, slot, le))

      within : length (kept_here y h).0 < length (flip xs)
      within = let e = flip_length xs in omega (arith, e, slot, le)

      value : value_at (flip xs) y.taken.slot ≡ Some y.taken.value
      value =
          ap (λ s. value_at (flip xs) s) slot
          ∙ (sym (get_flip (flip xs) (length (kept_here y h).0))
          ∙ (ap (λ l. slice_get l (length (kept_here y h).0)) (flip_flip xs)
          ∙ (sym (get_take xs (length ((kept_here y h).0 ++ y.taken.value ∷ [])) (length (kept_here y h).0) (omega (arith, len)))
          ∙ (ap (λ l. slice_get l (length (kept_here y h).0)) (sym is_front)
          ∙ get_end (kept_here y h).0 y.taken.value))))

      front : flip (before_slot (flip xs) y.taken.slot) ≡ (kept_here y h).0
      front =
          ap (λ s. flip (before_slot (flip xs) s)) slot
          ∙ (take_flip (flip xs) (length (kept_here y h).0)
          ∙ (ap (λ l. take (length (kept_here y h).0) l) (flip_flip xs)
          ∙ (sym (take_less xs (length (kept_here y h).0) (length ((kept_here y h).0 ++ y.taken.value ∷ [])) (omega (arith, len)))
          ∙ (ap (λ l. take (length (kept_here y h).0) l) (sym is_front)
          ∙ take_whole (kept_here y h).0 (y.taken.value ∷ [])))))

      is_kept : y.taken.kept ≡ became (reading_of t (before_slot (flip xs) y.taken.slot)) y.taken.value
      is_kept = (kept_here y h).4 ∙ ap (λ r. became r y.taken.value) (sym (sym (read_flip t (before_slot (flip xs) y.taken.slot)) ∙ ap (λ l. after (group_of t) l) front))

  pub the_log : (log : List Value) × LogOf t v log
  the_log = go v.took refl
    where
      go : (ts : List nodes.Took) → v.took ≡ ts → (log : List Value) × LogOf t v log
      go [] e = (
        [],
        record {
          chosen = λ k u q. absurd (no_value u q);
          took = λ y h. absurd (subst (λ l. In y l) e h);
          no_longer = λ h. absurd (omega (arith, h));
        },
      )
        where
          no_value : (u : Value) → None ≡ Some u → ⊥
          no_value u q = absurd (cc q)
      go (x ∷ xs) e = (
        flip ys,
        record {
          chosen = subst (λ l. IsChosenLog (group_of t) v.cast l) (sym (flip_flip ys)) (kept_here y there).5;
          took = λ z h. on_log ys (kept_here y there).5 z h (let a = (greatest x xs).2 z (subst (λ l. In z l) e h) in omega (arith, a, len));
          no_longer = λ h. (y, there, let a = flip_length ys in omega (arith, a, len));
        },
      )
        where
          y : nodes.Took
          y = (greatest x xs).0

          there : In (greatest x xs).0 v.took
          there = subst (λ l. In (greatest x xs).0 l) (sym e) (greatest x xs).1

          ys : List Value
          ys = (kept_here (greatest x xs).0 there).0 ++ ((greatest x xs).0).taken.value ∷ []

          len : length ys ≡ ((greatest x xs).0).taken.slot
          len = let a = length-append (kept_here (greatest x xs).0 there).0 (((greatest x xs).0).taken.value ∷ []) in let b = (kept_here (greatest x xs).0 there).2 in omega (arith, a, b)

-- ---- what was left of them

module _ (t : Setup) (v : nodes.World) (log : List Value) (of : LogOf t v log) where
  left_one : (p : Past) (i : Inc) (d : Did) → TookIn t v p i d → LeftBy t log p i d
  left_one p i d h = (h.0, h.2, of.took (record { by = i; taken = h.0 }) h.1)

  left_so : (p : Past) (i : Inc) (d : Did) → OfSlots (TookIn t v) p i d → OfSlots (LeftBy t log) p i d
  left_so p i (Took x) h = left_one p i (Took x) h
  left_so p i (Skips s u) h = left_one p i (Skips s u) h
  left_so p i Founds z = tt
  left_so p i (Starts x) z = tt
  left_so p i (Came x) z = tt
  left_so p i (Made v h) z = tt
  left_so p i (Done n) z = tt
  left_so p i (Committed g) z = tt
  left_so p i (Is s c) z = tt
  left_so p i (Gave n m) z = tt
  left_so p i (Answered s x) z = tt
  left_so p i (Begun s x y) z = tt
  left_so p i (Changed s c) z = tt
  left_so p i (Replied r) z = tt
  left_so p i (Called s v w) z = tt
  left_so p i (AsksCommit s j) z = tt
  left_so p i (Ends s) z = tt
  left_so p i (Enters w) z = tt
  left_so p i (Restores g cs) z = tt
  left_so p i AskFails z = tt

  pub left_all : (p : Past) → AllDid (OfSlots (TookIn t v)) p → AllDid (OfSlots (LeftBy t log)) p
  left_all [] h = tt
  left_all (Does i d ∷ p) h = (left_so p i d h.0, left_all p h.1)
  left_all (Writes n x ∷ p) h = left_all p h
  left_all (Halts n ∷ p) h = left_all p h
