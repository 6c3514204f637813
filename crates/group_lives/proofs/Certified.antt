-- A history keeps the items that its life keeps, and its verdicts are those of these items.
use Rattle.std.proofs.Common.{◌≡◌, inl, inr, ℕ, suc, ◌≤◌, Bool, true, false, cond, not, ◌&&◌, ltb, ltb-true, ltb-false, List, [], ◌∷◌, length, refl, ◌∙◌, sym, ap, subst, arith}
use Rattle.std.specs.Prelude.{Option, Some, None, nat_lt}
use Rattle.std.proofs.lemmas.Bool.{false≢true, and_parts, and_from}
use Rattle.gr_ids.specs.declared.names.Inc.{Inc}
use Rattle.gr_ids.specs.declared.names.ValueId.{ValueId}
use Rattle.gr_ids.specs.declared.names.Gtid.{Gtid}
use Rattle.gtid_sets.specs.Sets.{Gtids, has}
use Rattle.key_items.specs.declared.item.Item.{Item}
use Rattle.key_items.specs.Items.{item_eq, has_item}
use Rattle.key_items.proofs.Order.{item_eq_same, item_eq_itself}
use Rattle.slot_values.specs.declared.value.What.{What}
use Rattle.slot_values.specs.declared.value.What.TheVariants.{Noop, Add, Remove, Body as Says}
use Rattle.txn_forms.specs.declared.body.Txn.{Txn}
use Rattle.txn_forms.specs.declared.body.Body.{Body}
use Rattle.txn_forms.specs.declared.body.Body.TheVariants.{Txn as Writes}
use Rattle.group_rules.specs.Names.{KeptItem}
use Rattle.group_rules.specs.declared.marks.Effect.{Effect}
use Rattle.group_rules.specs.declared.marks.Effect.TheVariants.{Plain, Void, Unread, Positive, Conflict}
use Rattle.group_rules.specs.Events.{Founds, Starts, Made, Took, Is, Answered, Restores, Enters, Life, Setup}
use Rattle.group_rules.specs.Life.{view}
use Rattle.group_rules.specs.View.{View}
use Rattle.group_rules.specs.Told.{stable}
use Rattle.group_rules.specs.Certifier.{Certifier, certifier, certified_by, with_entry, forget_stable, blocker, later_of, verdict_by, verdict, next_gtid}
use Rattle.group_laws.specs.Lists.{Mem}
use Rattle.group_laws.specs.Entries as law
use Rattle.group_laws.specs.View as seen
use Rattle.group_laws.specs.Verdict as decided
use Rattle.group_laws.specs.Life as lives
use Rattle.group_laws.proofs.Lists.{any_mem, any_from}
use Rattle.group_laws.proofs.Certs.{same_place}
use Rattle.group_laws.proofs.KeptIsScan.{kept_is_writer, blocker_is, blocker_late}
use Rattle.group_lives.specs.Given.{IsHere, Writer, writer_of, AllAbove, Sorted, pair_of, SameWriters}
use Rattle.group_lives.specs.Lives.{does_entry, outcome_of, placed, life_of}
use Rattle.group_lives.specs.Sound.{IsEffect, IsTaking, HasToldSets, AddsNew}
use Rattle.group_lives.proofs.Taking.{places_agree, skip_answer, skip_state, skip_made}
use Rattle.group_lives.proofs.Numbers.{numbers_agree}
use Rattle.group_lives.proofs.Stable.{stable_agrees}
use Rattle.group_lives.proofs.Kept.{writer_written, sorted_written, unless_in, writer_filter, sorted_filter, lt_not_eq}

-- ---- what the kept items answer

abbrev passes : Txn → KeptItem → Bool
passes t k = has_item t.items k.item && not (has t.snapshot k.gtid)

-- the answer is a kept item that passes
blocker_in : (ks : List KeptItem) (t : Txn) (b : KeptItem) → blocker ks t ≡ Some b → Mem b ks × (passes t b ≡ true)
blocker_in [] t b h = absurd (cc h)
blocker_in (k ∷ ks) t b h = go (passes t k) refl (blocker ks t) refl h (blocker_in ks t b)
  where
    here : Some k ≡ Some b → passes t k ≡ true → Mem b (k ∷ ks) × (passes t b ≡ true)
    here f p = let e : k ≡ b = cc f in (inl e, subst (λ (z : KeptItem). passes t z ≡ true) e p)

    there : Mem b ks × (passes t b ≡ true) → Mem b (k ∷ ks) × (passes t b ≡ true)
    there x = (inr x.0, x.1)

    late : (j : KeptItem) (c : Bool) → nat_lt j.place k.place ≡ c → blocker ks t ≡ Some j → later_of k (Some j) ≡ Some b → passes t k ≡ true
        → (blocker ks t ≡ Some b → Mem b ks × (passes t b ≡ true)) → Mem b (k ∷ ks) × (passes t b ≡ true)
    late j true e q f p rec = let g : Some k ≡ Some b = rw e at f in here g p
    late j false e q f p rec = let g : Some j ≡ Some b = rw e at f in there (rec (q ∙ g))

    go : (a : Bool) → passes t k ≡ a → (o : Option KeptItem) → blocker ks t ≡ o → blocker (k ∷ ks) t ≡ Some b
        → (blocker ks t ≡ Some b → Mem b ks × (passes t b ≡ true)) → Mem b (k ∷ ks) × (passes t b ≡ true)
    go false p o q h rec = let f : blocker ks t ≡ Some b = rw (p, blocker) at h in there (rec f)
    go true p None q h rec = let f : Some k ≡ Some b = rw (p, q, blocker) at h in here f p
    go true p (Some j) q h rec = let f : later_of k (Some j) ≡ Some b = rw (p, q, blocker) at h in late j (nat_lt j.place k.place) refl q f p rec

-- and as late as any
blocker_last : (ks : List KeptItem) (t : Txn) (k : KeptItem) → Mem k ks → passes t k ≡ true → (b : KeptItem) × (blocker ks t ≡ Some b) × (k.place ≤ b.place)
blocker_last [] t k m h = absurd m
blocker_last (x ∷ xs) t k m h = go (passes t x) refl (blocker xs t) refl m (blocker_last xs t k)
  where
    later : (j : KeptItem) (c : Bool) → ltb j.place x.place ≡ c → (b : KeptItem) × (later_of x (Some j) ≡ Some b) × (x.place ≤ b.place) × (j.place ≤ b.place)
    later j true e = let l = ltb-true j.place x.place e in (x, rw e refl, omega arith, omega (arith, l))
    later j false e = let l = ltb-false j.place x.place e in (j, rw e refl, omega (arith, l), omega arith)

    is_first : x ≡ k → x.place ≡ k.place
    is_first e = ap (λ (z : KeptItem). z.place) e

    go : (a : Bool) → passes t x ≡ a → (o : Option KeptItem) → blocker xs t ≡ o → Mem k (x ∷ xs)
        → (Mem k xs → passes t k ≡ true → (b : KeptItem) × (blocker xs t ≡ Some b) × (k.place ≤ b.place)) → (b : KeptItem) × (blocker (x ∷ xs) t ≡ Some b) × (k.place ≤ b.place)
    go false p o q (inl e) rec = absurd (false≢true (sym p ∙ ap (passes t) e ∙ h))
    go false p o q (inr m) rec = let y = rec m h in (y.0, rw (p, blocker) y.1, y.2)
    go true p None q (inl e) rec = let z = is_first e in (x, rw (p, q, blocker) refl, omega (arith, z))
    go true p None q (inr m) rec = let y = rec m h in absurd (cc (sym q ∙ y.1))
    go true p (Some j) q (inl e) rec = let z = is_first e in let y = later j (ltb j.place x.place) refl in (y.0, rw (p, q, blocker) y.1, omega (arith, z, y.2))
    go true p (Some j) q (inr m) rec =
        let w = rec m h in
        let f : Some j ≡ Some w.0 = sym q ∙ w.1 in
        let g : j ≡ w.0 = cc f in
        let n : j.place ≡ w.0.place = ap (λ (z : KeptItem). z.place) g in
        let y = later j (ltb j.place x.place) refl in
        (y.0, rw (p, q, blocker) y.1, omega (arith, n, w.2, y.3))

-- ---- kept items and writers

lt_apart : (a : Item) (k : KeptItem) (ks : List KeptItem) → AllAbove a ks → Mem k ks → item_eq a k.item ≡ false
lt_apart a k ks h m = (lt_not_eq a k.item (h k m)).0

writer_at : (ks : List KeptItem) (k : KeptItem) → Sorted ks → Mem k ks → writer_of ks k.item ≡ Some (k.place, k.gtid)
writer_at [] k h m = absurd m
writer_at (x ∷ xs) k h (inl e) = subst (λ (z : KeptItem). writer_of (x ∷ xs) z.item ≡ Some (z.place, z.gtid)) e (ap (λ (b : Bool). cond b (Some (x.place, x.gtid)) (writer_of xs x.item)) (item_eq_itself x.item))
writer_at (x ∷ xs) k h (inr m) = ap (λ (b : Bool). cond b (Some (x.place, x.gtid)) (writer_of xs k.item)) (lt_apart x.item k xs h.0 m) ∙ writer_at xs k h.1 m

at_writer : (ks : List KeptItem) (i : Item) (w : Writer) → writer_of ks i ≡ Some w → (k : KeptItem) × Mem k ks × (k.item ≡ i) × ((k.place, k.gtid) ≡ w)
at_writer [] i w h = absurd (cc h)
at_writer (x ∷ xs) i w h = go (item_eq x.item i) refl h (at_writer xs i w)
  where
    go : (b : Bool) → item_eq x.item i ≡ b → cond b (Some (x.place, x.gtid)) (writer_of xs i) ≡ Some w
        → (writer_of xs i ≡ Some w → (k : KeptItem) × Mem k xs × (k.item ≡ i) × ((k.place, k.gtid) ≡ w)) → (k : KeptItem) × Mem k (x ∷ xs) × (k.item ≡ i) × ((k.place, k.gtid) ≡ w)
    go true e f rec = (x, inl refl, item_eq_same x.item i e, cc f)
    go false e f rec = let y = rec f in (y.0, inr y.1, y.2, y.3)

abbrev kept_as : KeptItem → Writer
kept_as k = (k.place, k.gtid)

abbrev cert_as : law.Cert → Writer
cert_as c = (c.place, c.gtid)

-- the writer that the list keeps of an item
cert_at : (o : Option law.Cert) (w : Writer) → pair_of o ≡ Some w → (c : law.Cert) × (o ≡ Some c) × ((c.place, c.gtid) ≡ w)
cert_at None w h = absurd (cc h)
cert_at (Some c) w h = (c, refl, cc h)

-- ---- the verdict

mem_item : (xs : List Item) (i : Item) → has_item xs i ≡ true → Mem i xs
mem_item xs i h = let x = any_mem (item_eq i) xs h in subst (λ (z : Item). Mem z xs) (sym (item_eq_same i x.0 x.2)) x.1

item_mem : (xs : List Item) (i : Item) → Mem i xs → has_item xs i ≡ true
item_mem xs i m = any_from (item_eq i) xs i m (item_eq_itself i)

module _ (s : Setup) (ks : List KeptItem) (m : List law.Placed) (t : Txn) (sorted : Sorted ks) (same : SameWriters s ks m) where
  -- a kept item that passes is a kept writer outside the snapshot, and the other way round
  as_cert : (k : KeptItem) → Mem k ks → passes t k ≡ true
      → (c : law.Cert) × (decided.kept_writer s m k.item ≡ Some c) × (cert_as c ≡ kept_as k) × Mem k.item t.items × (decided.outside t c ≡ true)
  as_cert k h p =
      let q = and_parts (has_item t.items k.item) (not (has t.snapshot k.gtid)) p in
      let x = cert_at (decided.kept_writer s m k.item) (k.place, k.gtid) (sym (same k.item) ∙ writer_at ks k sorted h) in
      (x.0, x.1, x.2, mem_item t.items k.item q.0, ap (λ (z : Writer). not (has t.snapshot z.1)) x.2 ∙ q.1)

  as_kept : (i : Item) (c : law.Cert) → Mem i t.items → decided.kept_writer s m i ≡ Some c → decided.outside t c ≡ true
      → (k : KeptItem) × Mem k ks × (passes t k ≡ true) × (kept_as k ≡ cert_as c)
  as_kept i c h w o =
      let x = at_writer ks i (c.place, c.gtid) (same i ∙ ap pair_of w) in (
        x.0,
        x.1,
        and_from (has_item t.items x.0.item) (not (has t.snapshot x.0.gtid)) (ap (has_item t.items) x.2 ∙ item_mem t.items i h) (ap (λ (z : Writer). not (has t.snapshot z.1)) x.3 ∙ o),
        x.3,
      )

  abbrev law_blocker : Option law.Cert
  law_blocker = decided.kept_blocker s m t t.items

  none_else : (c : law.Cert) → law_blocker ≡ Some c → blocker ks t ≡ None → ⊥
  none_else c h e =
      let x = blocker_is s m t t.items c h in
      let k = as_kept x.0 c x.1 x.2 x.3 in
      let b = blocker_last ks t k.0 k.1 k.2 in
      let f : None ≡ Some b.0 = sym e ∙ b.1 in absurd (cc f)

  some_else : (k : KeptItem) → blocker ks t ≡ Some k → law_blocker ≡ None → ⊥
  some_else k h e =
      let x = blocker_in ks t k h in
      let c = as_cert k x.0 x.1 in
      let b = blocker_late s m t t.items k.item c.0 c.3 c.1 c.4 in
      let f : None ≡ Some b.0 = sym e ∙ b.1 in absurd (cc f)

  -- both are as late as any: at the same place, so the same transaction
  same_gtid : (k : KeptItem) (c : law.Cert) → blocker ks t ≡ Some k → law_blocker ≡ Some c → k.gtid ≡ c.gtid
  same_gtid k c h e =
      let x = blocker_in ks t k h in
      let d = as_cert k x.0 x.1 in
      let l = blocker_late s m t t.items k.item d.0 d.3 d.1 d.4 in
      let l2 : Some c ≡ Some l.0 = sym e ∙ l.1 in
      let l3 : c ≡ l.0 = cc l2 in
      let n1 : c.place ≡ l.0.place = ap (λ (z : law.Cert). z.place) l3 in
      let y = blocker_is s m t t.items c e in
      let j = as_kept y.0 c y.1 y.2 y.3 in
      let b = blocker_last ks t j.0 j.1 j.2 in
      let b2 : Some k ≡ Some b.0 = sym h ∙ b.1 in
      let b3 : k ≡ b.0 = cc b2 in
      let n2 : k.place ≡ b.0.place = ap (λ (z : KeptItem). z.place) b3 in
      let n3 : j.0.place ≡ c.place = ap (λ (z : Writer). z.0) j.3 in
      let n4 : d.0.place ≡ k.place = ap (λ (z : Writer). z.0) d.2 in
      let p : d.0.place ≡ c.place = omega (arith, n1, n2, n3, n4, l.2, b.2) in
      let same_cert = same_place s m d.0 c (kept_is_writer s m k.item d.0 d.1).0 (kept_is_writer s m y.0 c y.2).0 p in
      sym (ap (λ (z : Writer). z.1) d.2) ∙ ap (λ (z : law.Cert). z.gtid) same_cert

  same_verdict : (g : Gtid) (n : ℕ) → g.number ≡ n → outcome_of (verdict_by g (blocker ks t)) ≡ decided.decided n law_blocker
  same_verdict g n e = go (blocker ks t) refl law_blocker refl
    where
      go : (a : Option KeptItem) → blocker ks t ≡ a → (b : Option law.Cert) → law_blocker ≡ b → outcome_of (verdict_by g a) ≡ decided.decided n b
      go None p None q = ap law.Positive e
      go None p (Some c) q = absurd (none_else c q p)
      go (Some k) p None q = absurd (some_else k p q)
      go (Some k) p (Some c) q = ap law.Conflict (same_gtid k c p q)

-- ---- one entry more

one_writer : (s : Setup) (v : View) (p n : ℕ) (i : ValueId) (w : What) (b : Option Body) (e : Effect) (c : Certifier) (was : Option law.Cert) (x : Item) → p ≡ n → IsEffect s v w b e
    → writer_of c.items x ≡ pair_of was
    → writer_of (certified_by s.limits p i.origin e b c).items x ≡ pair_of (decided.if_writes x (law.cert_parts s n i.origin i.number (does_entry w e b) (outcome_of e)) was)
one_writer s v p n i (Says y) (Some (Writes t)) (Positive g) c was x q h k =
    writer_written p g t.items c.items x ∙ go (has_item t.items x)
  where
    go : (b : Bool) → cond b (Some (p, g)) (writer_of c.items x)
        ≡ pair_of (cond b (Some (record { place = n; origin = i.origin; id = i.number; gtid = record { source = s.limits.group; number = g.number }; txn = t })) was)
    go true = λ j. Some (q j, record { source = h j; number = g.number })
    go false = k
one_writer s v p n i (Says y) (Some (Writes t)) (Conflict g) c was x q h k = k
one_writer s v p n i (Says y) (Some (Writes t)) Plain c was x q h k = absurd h
one_writer s v p n i (Says y) (Some (Writes t)) Void c was x q h k = absurd h
one_writer s v p n i (Says y) (Some (Writes t)) Unread c was x q h k = absurd h
one_writer s v p n i (Says y) None Plain c was x q h k = k
one_writer s v p n i (Says y) None (Positive g) c was x q h k = k
one_writer s v p n i (Says y) None e c was x q h k = k
one_writer s v p n i (Says y) (Some b) (Positive g) c was x q h k = k
one_writer s v p n i (Says y) (Some b) e c was x q h k = k
one_writer s v p n i Noop (Some b) e c was x q h k = absurd h
one_writer s v p n i (Add j) (Some b) e c was x q h k = absurd h
one_writer s v p n i (Remove j) (Some b) e c was x q h k = absurd h
one_writer s v p n i Noop None (Positive g) c was x q h k = k
one_writer s v p n i Noop None e c was x q h k = k
one_writer s v p n i (Add j) None Plain c was x q h k = k
one_writer s v p n i (Add j) None (Positive g) c was x q h k = k
one_writer s v p n i (Add j) None e c was x q h k = k
one_writer s v p n i (Remove j) None Plain c was x q h k = k
one_writer s v p n i (Remove j) None (Positive g) c was x q h k = k
one_writer s v p n i (Remove j) None e c was x q h k = k

-- what is forgotten of the items that were kept
one_forgets : (s : Setup) (l : Life) (c : Certifier) (ks : List KeptItem) (x : Item) → c.items ≡ ks → Sorted c.items
    → (writer_of (forget_stable s l c ks).items x ≡ unless_in (stable s l) (writer_of c.items x)) × Sorted (forget_stable s l c ks).items
one_forgets s l c [] x e h = (ap (λ ys. writer_of ys x) e ∙ sym (ap (λ ys. unless_in (stable s l) (writer_of ys x)) e), h)
one_forgets s l c (k ∷ ks) x e h = (writer_filter (stable s l) c.items x h, sorted_filter (stable s l) c.items h)

sorted_certified : (s : Setup) (p : ℕ) (o : Inc) (e : Effect) (b : Option Body) (c : Certifier) → Sorted c.items → Sorted (certified_by s.limits p o e b c).items
sorted_certified s p o (Positive g) (Some (Writes t)) c h = sorted_written p g t.items c.items h
sorted_certified s p o (Positive g) (Some b) c h = h
sorted_certified s p o (Positive g) None c h = h
sorted_certified s p o e b c h = h

-- what both forget
both_forget : (s : Setup) (r : Gtids) (p : List law.Value) (o : Option law.Cert) → ((g : Gtid) → has r g ≡ seen.stable s p g) → unless_in r (pair_of o) ≡ pair_of (decided.unless_stable s p o)
both_forget s r p None h = refl
both_forget s r p (Some c) h = ap (λ (b : Bool). cond b None (Some (c.place, c.gtid))) (h c.gtid) ∙ go (seen.stable s p c.gtid)
  where
    go : (b : Bool) → cond b None (Some (c.place, c.gtid)) ≡ pair_of (cond b None (Some c))
    go true = refl
    go false = refl

-- ---- a history

pub sorted_items : (s : Setup) (base : List law.Placed) (l : Life) → IsTaking s base l → Sorted (certifier s l).items
sorted_items s base [] h = absurd h
sorted_items s base (Founds ∷ l) h = subst (λ (y : Life). Sorted (certifier s y).items) (sym h) tt
sorted_items s base (Took e ∷ l) h =
    let c = with_entry s.limits e (certifier s l) in
    let k = sorted_certified s e.place e.value.id.origin e.effect e.holds (certifier s l) (sorted_items s base l h.1) in
    (one_forgets s (Took e ∷ l) c c.items (record { table = []; key = [] }) refl k).1
sorted_items s base (Restores g cs ∷ l) h = h.sorted
sorted_items s base (Enters w ∷ l) h = absurd h
sorted_items s base (Starts x ∷ l) h = absurd h
sorted_items s base (d ∷ l) h = sorted_items s base l h

module _ (s : Setup) (base : List law.Placed) where
  abbrev list_of : Life → List law.Placed
  list_of l = lives.marked (life_of base l)

  pub same_writers : (l : Life) → IsTaking s base l → HasToldSets l → AddsNew s (law.values (list_of l)) → SameWriters s (certifier s l).items (list_of l)
  same_writers [] h k a = absurd h
  same_writers (Founds ∷ l) h k a = subst (λ (y : Life). SameWriters s (certifier s y).items (list_of y)) (sym h) (λ i. refl)
  same_writers (Took e ∷ l) h k a = λ x.
      let c = with_entry s.limits e (certifier s l) in
      let sorted = sorted_certified s e.place e.value.id.origin e.effect e.holds (certifier s l) (sorted_items s base l h.1) in
      let n : e.place ≡ suc (length (list_of l)) = h.0.0 ∙ sym (ap suc (places_agree s base l h.1)) in
      let w = one_writer s (view s l) e.place (suc (length (list_of l))) e.value.id e.value.what e.holds e.effect (certifier s l) (decided.kept_writer s (list_of l) x) x n h.0.1 (same_writers l h.1 k.1 a.1 x) in
      (one_forgets s (Took e ∷ l) c c.items x refl sorted).0
      ∙ ap (unless_in (stable s (Took e ∷ l))) w
      ∙ both_forget s (stable s (Took e ∷ l)) (law.values (list_of (Took e ∷ l))) (decided.if_writes x (law.cert_of s (suc (length (list_of l))) (placed e)) (decided.kept_writer s (list_of l) x))
      (λ g. stable_agrees s base (Took e ∷ l) g h k a)
  same_writers (Restores g cs ∷ l) h k a = h.writers
  same_writers (Enters w ∷ l) h k a = absurd h
  same_writers (Starts x ∷ l) h k a = absurd h
  same_writers (Answered n y ∷ l) h k a = skip (skip_answer base n y l (life_of base l)) (same_writers l h k (subst (λ (y : List law.Placed). AddsNew s (law.values y)) (skip_answer base n y l (life_of base l)) a))
    where
      skip : list_of (Answered n y ∷ l) ≡ list_of l → SameWriters s (certifier s l).items (list_of l) → SameWriters s (certifier s l).items (list_of (Answered n y ∷ l))
      skip e f = subst (SameWriters s (certifier s l).items) (sym e) f
  same_writers (Is x c ∷ l) h k a = skip (skip_state base x c l (life_of base l)) (same_writers l h k (subst (λ (y : List law.Placed). AddsNew s (law.values y)) (skip_state base x c l (life_of base l)) a))
    where
      skip : list_of (Is x c ∷ l) ≡ list_of l → SameWriters s (certifier s l).items (list_of l) → SameWriters s (certifier s l).items (list_of (Is x c ∷ l))
      skip e f = subst (SameWriters s (certifier s l).items) (sym e) f
  same_writers (Made v b ∷ l) h k a = skip (skip_made v b l (life_of base l)) (same_writers l h k (subst (λ (y : List law.Placed). AddsNew s (law.values y)) (skip_made v b l (life_of base l)) a))
    where
      skip : list_of (Made v b ∷ l) ≡ list_of l → SameWriters s (certifier s l).items (list_of l) → SameWriters s (certifier s l).items (list_of (Made v b ∷ l))
      skip e f = subst (SameWriters s (certifier s l).items) (sym e) f
  same_writers (d ∷ l) h k a = same_writers l h k a

  pub verdicts_agree : (l : Life) (o : Inc) (t : Txn) → IsTaking s base l → HasToldSets l → AddsNew s (law.values (list_of l)) → IsHere s (law.values (list_of l)) o
      → outcome_of (verdict s.limits (certifier s l) o t) ≡ decided.kept_parts s (list_of l) o (law.Write t)
  verdicts_agree l o t h k a z =
      same_verdict s (certifier s l).items (list_of l) t (sorted_items s base l h) (same_writers l h k a)
      (next_gtid s.limits (certifier s l) o) (decided.next_number s (law.certified s (list_of l)) o) (numbers_agree s o base l h z)
