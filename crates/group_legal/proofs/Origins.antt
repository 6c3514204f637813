-- Each value of the list was made by its origin before, as what its place does.
use Rattle.std.proofs.Common.{◌≡◌, inl, inr, ℕ, suc, ◌+◌, ◌<◌, Bool, true, false, cond, not, Option, Some, None, List, [], ◌∷◌, refl, sym, ap, subst, ◌∙◌, length, arith}
use Rattle.std.specs.Prelude.{if◌then◌else◌, nat_le}
use Rattle.std.proofs.lemmas.Bool.{false≢true, and_parts, not-true, leb-false}
use Rattle.gr_ids.specs.declared.names.Inc.{Inc}
use Rattle.gr_ids.specs.Names.{inc_eq}
use Rattle.slot_values.specs.declared.value.Value.{Value}
use Rattle.slot_values.specs.declared.kept.Kept.TheVariants.{At as KeptAt, Skipped as IsSkipped}
use Rattle.slot_values.specs.Values.{is_noop}
use Rattle.slot_values.specs.Log.{Reading, is_next, is_kept, has_effect, became}
use Rattle.txn_forms.specs.declared.body.Body.{Body}
use Rattle.txn_forms.specs.declared.body.Body.TheVariants.{Txn as Writes, Prepared, Sync, Executed, Online as Arrives, Mode as Switches, Primary as Appoints, Part as PartOf}
use Rattle.node_rules.specs.Lists.{In}
use Rattle.node_rules.proofs.Incs.{inc_is, inc_same}
use Rattle.group_rules.specs.Events.{Did, Made, Took, Skips, Setup, Entry}
use Rattle.group_rules.specs.Life.{entry_at}
use Rattle.group_rules.specs.Parts.{open_parts, open_after, held}
use Rattle.group_rules.specs.OneList.{reading_of, value_at, before_slot, scan_entry, listed_by, listed}
use Rattle.group_rules.specs.Legal.{IsPast, WasMade}
use Rattle.group_rules.specs.World.{Past, Does, life_in}
use Rattle.group_runs.specs.Runs.{AllDid, IsDone}
use Rattle.group_order.specs.OneLog.{TakenAs, Follows, IsTaken, LogOver}
use Rattle.group_order.proofs.Nexts.{past_self, past_of, done_at}
use Rattle.group_order.proofs.Flips.{value_here, value_below, before_all}
use Rattle.group_order.proofs.Lookups.{value_within, listed_entry}
use Rattle.group_laws.specs.Lists as listing
use Rattle.group_laws.specs.Entries as law
use Rattle.group_laws.specs.Entries.{unplaced}
use Rattle.group_laws.specs.View as seen
use Rattle.group_laws.specs.Life as lives
use Rattle.group_laws.specs.World as run
use Rattle.group_laws.specs.World.{IsKeptList, MadeBy}
use Rattle.group_lives.specs.Lives.{does_body, does_entry, placed, made_as, asking, run_of}
use Rattle.group_legal.specs.OwnRanges.{ReadBack, MadeInRange}
use Rattle.group_legal.proofs.Scanned.{old_list}
use Rattle.group_legal.proofs.Newcomers.{list_if}
use Rattle.group_legal.proofs.Numbered.{kept_list}
use Rattle.group_legal.proofs.Points.{point}
use Rattle.group_legal.proofs.OwnValues.{Own, owns, last_own, AreOwn, are_own, own_past, own_made, happened, first_in, rest_past, own_of, own_once}
use Rattle.group_legal.proofs.OwnParts.{open_own, does_as_made}

-- ---- the values of a log were made

-- but for Noops
abbrev pub AllMade : Past → List Value → Type 0
AllMade w [] = Unit {0}
AllMade w (v ∷ log) = (is_noop v.what ≡ false → WasMade w v) × AllMade w log

made_past : (p w : Past) (v : Value) → IsPast p w → WasMade p v → WasMade w v
made_past p w v k m = (m.0, there w k)
  where
    there : (w : Past) → IsPast p w → In (Does v.id.origin (Made v m.0)) w
    there [] k = subst (λ y. In (Does v.id.origin (Made v m.0)) y) k m.1
    there (x ∷ w) (inl e) = subst (λ y. In (Does v.id.origin (Made v m.0)) y) e m.1
    there (x ∷ w) (inr k) = inr (there w k)

-- those before a slot, where each of them was
all_made : (w : Past) (log : List Value) (n : ℕ) → ((s : ℕ) (v : Value) → s < n → value_at log s ≡ Some v → is_noop v.what ≡ false → WasMade w v) → AllMade w (before_slot log n)
all_made w [] n f = tt
all_made w (v ∷ log) n f = go (nat_le n (suc (length log))) refl (all_made w log n (λ s u lt h. f s u lt (let z = value_within log s u h in value_below v log s z.1 ∙ h)))
  where
    go : (b : Bool) → nat_le n (suc (length log)) ≡ b → AllMade w (before_slot log n) → AllMade w (elim b [ true ↦ before_slot log n | false ↦ v ∷ log ])
    go true q k = k
    go false q k = let z = leb-false n (suc (length log)) q in (f (suc (length log)) v z (value_here v log), subst (AllMade w) (before_all log n (omega (arith, z))) k)

-- ---- what was made, in the run of the laws

-- it is the first mark of its making
abbrev FirstMade : (Inc → List law.Placed) → Past → Value → Option Body → Type 0
FirstMade base q v b = (past : run.World) × (run_of base (Does v.id.origin (Made v b) ∷ q) ≡ run.Does v.id.origin (lives.Made (made_as v b)) ∷ past)

first_made : (base : Inc → List law.Placed) (q : Past) (v : Value) (b : Option Body) → FirstMade base q v b
first_made base q v None = (run_of base q, refl)
first_made base q v (Some (Writes t)) = (run.Does v.id.origin (lives.Asked (asking (life_in q v.id.origin))) ∷ run_of base q, refl)
first_made base q v (Some (Prepared g)) = (run_of base q, refl)
first_made base q v (Some Sync) = (run_of base q, refl)
first_made base q v (Some (Executed s)) = (run_of base q, refl)
first_made base q v (Some (Arrives s)) = (run_of base q, refl)
first_made base q v (Some (Switches m)) = (run_of base q, refl)
first_made base q v (Some (Appoints i)) = (run_of base q, refl)
first_made base q v (Some (PartOf p)) = (run_of base q, refl)

made_by : (base : Inc → List law.Placed) (q p : Past) (e : Entry) (b : Option Body) → IsPast (Does e.value.id.origin (Made e.value b) ∷ q) p
    → unplaced (does_entry e.value.what e.effect e.holds) ≡ does_body b
    → MadeBy (run_of base p) (placed e).value
made_by base q p e b k h =
    let f = first_made base q e.value b in
    let same : law.as_made (placed e).value ≡ made_as e.value b = ap (λ y. record { origin = e.value.id.origin; number = e.value.id.number; body = y }) h in
    (f.0, subst (λ y. listing.IsPast y (run_of base p)) (f.1 ∙ ap (λ y. run.Does e.value.id.origin (lives.Made y) ∷ f.0) (sym same)) (point base (Does e.value.id.origin (Made e.value b) ∷ q) p k))

-- ---- the open parts of the list are those of the values made

kept_number : (r : Reading) (v : Value) (p : ℕ) (b : Bool) → KeptAt p b ≡ became r v → is_kept r v ≡ true
kept_number r v p b h = go (is_kept r v) h
  where
    go : (c : Bool) → KeptAt p b ≡ (if c then KeptAt (r.place + 1) (has_effect r v.what) else IsSkipped) → c ≡ true
    go true q = refl
    go false q = absurd (cc q)

not_noop : (r : Reading) (v : Value) → is_kept r v ≡ true → is_noop v.what ≡ false
not_noop r v h = not-true (is_noop v.what) (and_parts (not (is_noop v.what)) (is_next r.members v.id.origin v.id.number) h).0

module _ (t : Setup) where
  abbrev list_at : List Value → List law.Value
  list_at log = law.values (old_list t [] log)

  -- a kept value has the next number of its origin
  next_number : (v : Value) (log : List Value) → is_kept (reading_of t log) v ≡ true → v.id.number ≡ suc (seen.last_kept (list_at log) v.id.origin)
  next_number v log h = go (is_kept (reading_of t log) v) h (kept_list t [] (v ∷ log)).0
    where
      go : (b : Bool) → b ≡ true → IsKeptList t (list_if t [] b v log) → v.id.number ≡ suc (seen.last_kept (list_at log) v.id.origin)
      go true e k = k.0.0
      go false e k = absurd (false≢true e)

  module _ (w : Past) (o : Inc) (own : AreOwn o (owns (life_in w o))) where
    abbrev Agrees : List Value → Type 0
    Agrees log = (xs : List Own) → listing.IsPast xs (owns (life_in w o)) → last_own xs ≡ seen.last_kept (list_at log) o → open_parts (listed t log) o ≡ open_own o xs

    abbrev AgreesIf : Bool → Value → List Value → Type 0
    AgreesIf b v log = (xs : List Own) → listing.IsPast xs (owns (life_in w o)) → last_own xs ≡ seen.last_kept (list_if t [] b v log) o
        → open_parts (listed_by t (listed t log) (suc (length log)) v (if b then KeptAt ((reading_of t log).place + 1) (has_effect (reading_of t log) v.what) else IsSkipped)) o ≡ open_own o xs

    none_open : (xs : List Own) → AreOwn o xs → last_own xs ≡ 0 → None ≡ open_own o xs
    none_open [] k e = refl
    none_open (x ∷ xs) k e = let n : x.value.id.number ≡ suc (last_own xs) = k.0.1 in absurd (omega (arith, n, e))

    -- one more of its own values
    own_more : (v : Value) (log : List Value) → WasMade w v → v.id.origin ≡ o → v.id.number ≡ suc (seen.last_kept (list_at log) o) → Agrees log
        → (xs : List Own) → listing.IsPast xs (owns (life_in w o)) → last_own xs ≡ v.id.number
        → open_after o (held (open_parts (listed t log) o) v.what) (open_parts (listed t log) o) ≡ open_own o xs
    own_more v log m e n f [] k q = let z : 0 ≡ v.id.number = q in absurd (omega (arith, n, z))
    own_more v log m e n f (x ∷ xs) k q =
        let made : In (record { value = v; holds = m.0 }) (owns (life_in w o)) = own_made o v m.0 w (subst (λ y. In (Does y (Made v m.0)) w) e m.1) in
        let same : x ≡ record { value = v; holds = m.0 } = own_once o x (record { value = v; holds = m.0 }) (owns (life_in w o)) own (first_in x xs (owns (life_in w o)) k) made q in
        let rest = rest_past x xs (owns (life_in w o)) k in
        let here = own_of o (x ∷ xs) (owns (life_in w o)) k own in
        let number : x.value.id.number ≡ suc (last_own xs) = here.0.1 in
        let before = f xs rest (omega (arith, number, q, n)) in
        λ j. open_after o (held (before j) (sym (ap (λ (y : Own). y.value.what) same) j)) (before j)

    one_more : (b : Bool) (v : Value) (log : List Value) → is_kept (reading_of t log) v ≡ b → (is_noop v.what ≡ false → WasMade w v) → Agrees log
        → AgreesIf b v log
    one_more false v log e m f xs k q = f xs k q
    one_more true v log e m f xs k q = go (inc_eq v.id.origin o) refl q
      where
        next : v.id.number ≡ suc (seen.last_kept (list_at log) v.id.origin)
        next = next_number v log e

        go : (c : Bool) → inc_eq v.id.origin o ≡ c → last_own xs ≡ cond c v.id.number (seen.last_kept (list_at log) o)
            → elim c [ true ↦ open_after o (held (open_parts (listed t log) v.id.origin) v.what) (open_parts (listed t log) o) | false ↦ open_parts (listed t log) o ] ≡ open_own o xs
        go false h r = f xs k r
        go true h r =
            let same : v.id.origin ≡ o = inc_is v.id.origin o h in
            ap (λ y. open_after o (held (open_parts (listed t log) y) v.what) (open_parts (listed t log) o)) same
            ∙ own_more v log (m (not_noop (reading_of t log) v e)) same (next ∙ ap (λ y. suc (seen.last_kept (list_at log) y)) same) f xs k r

    -- what the origin has open in the list is what its values up to its last number leave open
    pub list_opens : (log : List Value) → AllMade w log → Agrees log
    list_opens [] h xs k q = none_open xs (own_of o xs (owns (life_in w o)) k own) q
    list_opens (v ∷ log) h xs k q = one_more (is_kept (reading_of t log) v) v log refl h.0 (list_opens log h.1) xs k q

-- ---- what a place holds

module _ (t : Setup) (w : Past) (one : LogOver t w) (done : AllDid (IsDone t) w) (reads : ReadBack) (ranges : MadeInRange w) where
  taken_made : (s : ℕ) (v : Value) → value_at one.log s ≡ Some v → is_noop v.what ≡ false → IsTaken s w → WasMade w v
  taken_made s v h n (i, p, inl (e, slot, k)) =
      let f = done_at (Follows t one.log) w p i (Took e) one.follows k in
      let both : Some e.value ≡ Some v = sym f.value ∙ ap (value_at one.log) slot ∙ h in
      let same : e.value ≡ v = cc in
      made_past p w v (past_of (Does i (Took e) ∷ p) p w k (inr (past_self p))) (subst (WasMade p) same f.made)
  taken_made s v h n (i, p, inr (u, k)) =
      let f = done_at (Follows t one.log) w p i (Skips s u) one.follows k in
      let both : Some u ≡ Some v = sym f.value ∙ h in
      let same : u ≡ v = cc in
      made_past p w v (past_of (Does i (Skips s u) ∷ p) p w k (inr (past_self p))) (subst (WasMade p) same (f.made (ap (λ y. is_noop y.what) same ∙ n)))

  -- what an entry holds, by the parts that its origin has open in the list before it
  entry_holds : (p : Past) (i : Inc) (e : Entry) → TakenAs t one.log p i e
      → e.holds ≡ held (open_parts (listed t (before_slot one.log e.slot)) e.value.id.origin) e.value.what
  entry_holds p i e f =
      let x = f.listed.0 in
      let place : e.place ≡ f.place = ap (λ (y : Entry). y.place) f.is_it in
      let scanned : Entry = scan_entry t (listed t (before_slot one.log e.slot)) e.slot f.place f.effect e.value in
      let there : Some x ≡ Some scanned = sym f.listed.1 ∙ ap (entry_at (listed t one.log)) place ∙ listed_entry t one.log e.slot e.value f.place f.effect f.value f.kept in
      let same : x ≡ scanned = cc in
      sym f.listed.2.holds ∙ ap (λ (y : Entry). y.holds) same

  module _ (p : Past) (i : Inc) (e : Entry) (k : IsPast (Does i (Took e) ∷ p) w) where
    abbrev origin : Inc
    origin = e.value.id.origin

    -- the log before its slot
    abbrev log_before : List Value
    log_before = before_slot one.log e.slot

    took : TakenAs t one.log p i e
    took = done_at (Follows t one.log) w p i (Took e) one.follows k

    abbrev made : Did
    made = Made e.value took.made.0

    -- each slot before it was taken
    log_made : AllMade w log_before
    log_made = all_made w one.log e.slot made_so
      where
        p_past : IsPast p w
        p_past = past_of (Does i (Took e) ∷ p) p w k (inr (past_self p))

        wider : (s : ℕ) → IsTaken s p → IsTaken s w
        wider s (j, q, inl (x, slot, m)) = (j, q, inl (x, slot, past_of p (Does j (Took x) ∷ q) w p_past m))
        wider s (j, q, inr (v, m)) = (j, q, inr (v, past_of p (Does j (Skips s v) ∷ q) w p_past m))

        made_so : (s : ℕ) (v : Value) → s < e.slot → value_at one.log s ≡ Some v → is_noop v.what ≡ false → WasMade w v
        made_so s v lt h n = let z = took.next in taken_made s v h n (wider s (one.reached p p_past i s (value_within one.log s v h).0 (omega (arith, lt, z))))

    -- when it was made, and the own values before it
    at : (q : Past) × IsPast (Does origin made ∷ q) p
    at = happened origin made p took.made.1

    abbrev own_before : List Own
    own_before = owns (life_in at.0 origin)

    abbrev own_made_here : List Own
    own_made_here = record { value = e.value; holds = took.made.0 } ∷ own_before

    own_all : AreOwn origin (owns (life_in w origin))
    own_all = are_own t w done ranges origin

    past_then : listing.IsPast own_made_here (owns (life_in w origin))
    past_then =
        let past_p : IsPast p w = past_of (Does i (Took e) ∷ p) p w k (inr (past_self p)) in
        let past_at : IsPast (Does origin made ∷ at.0) w = past_of p (Does origin made ∷ at.0) w past_p at.1 in
        let life : life_in (Does origin made ∷ at.0) origin ≡ made ∷ life_in at.0 origin =
        ap (λ c. elim c [ true ↦ made ∷ life_in at.0 origin | false ↦ life_in at.0 origin ]) (inc_same origin) in
        subst (λ y. listing.IsPast (owns y) (owns (life_in w origin))) life (own_past (Does origin made ∷ at.0) w origin past_at)

    own_then : AreOwn origin own_made_here
    own_then = own_of origin own_made_here (owns (life_in w origin)) past_then own_all

    -- the list then has those before it
    last : last_own own_before ≡ seen.last_kept (list_at t log_before) origin
    last =
        let n : e.value.id.number ≡ suc (last_own own_before) = own_then.0.1 in
        let m = next_number t e.value log_before (kept_number (reading_of t log_before) e.value took.place took.effect took.kept) in
        omega (arith, n, m)

    opens : open_parts (listed t log_before) origin ≡ open_own origin own_before
    opens =
        let rest = rest_past (record { value = e.value; holds = took.made.0 }) own_before (owns (life_in w origin)) past_then in
        list_opens t w origin own_all log_before log_made own_before rest last

    does_the_same : unplaced (does_entry e.value.what e.effect e.holds) ≡ does_body took.made.0
    does_the_same =
        ap (λ y. unplaced (does_entry e.value.what e.effect y)) (entry_holds p i e took ∙ ap (λ y. held y e.value.what) opens)
        ∙ does_as_made reads origin own_before e.value took.made.0 own_then.1 own_then.0.3 own_then.0.2 e.effect

  -- each value that is taken was made before, as what its place does
  pub made_before : (base : Inc → List law.Placed) (p : Past) (i : Inc) (e : Entry) → IsPast (Does i (Took e) ∷ p) w
      → MadeBy (run_of base p) (placed e).value
  made_before base p i e k = made_by base (at p i e k).0 p e (took p i e k).made.0 (at p i e k).1 (does_the_same p i e k)
