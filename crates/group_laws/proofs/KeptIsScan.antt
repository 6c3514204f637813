-- On a fresh list the kept items give the verdict of the scan.
use Rattle.std.proofs.Common.{◌≡◌, ◌⊎◌, ◌↔◌, inl, inr, ℕ, suc, ◌≤◌, ◌<◌, List, [], ◌∷◌, length, Option, Some, None, Bool, true, false, cond, ltb, ltb-true, ltb-false, ◌&&◌, refl, sym, ◌∙◌, ap, subst, arith}
use Rattle.std.proofs.lemmas.Bool.{and_parts, and_from, not-true, not-false, both_ways, cases_order}
use Rattle.group_rules.specs.Events.{Setup}
use Rattle.group_laws.specs.Lists.{Mem, IsPast, newest}
use Rattle.group_laws.specs.Names.{Inc, Item, has, Txn}
use Rattle.group_laws.specs.Entries.{Body, Write, Executed, Online, Joins, Leaves, Prepared, Switches, Appoints, Plain, Value, Placed, Cert, values, cert_of, cons_some, certified}
use Rattle.group_laws.specs.View.{active, stable}
use Rattle.group_laws.specs.Verdict.{writes, shares, outside, blocks, next_number, decided, scan_outcome, kept_outcome, if_writes, unless_stable, kept_writer, if_outside, later, kept_blocker}
use Rattle.group_laws.specs.Fresh.{FreshTxn, FreshBody, Fresh, IsKept}
use Rattle.group_laws.proofs.Lists.{any_mem, any_from, IsPast-length, IsPast-mem, newest_none, newest_mem}
use Rattle.group_laws.proofs.Certs.{cons_cases, cons_keeps, parts_place, place_le, same_place, newest_place}
use Rattle.group_laws.proofs.Views.{stable_told, told_by, not_yet_online}

pub length_values : (m : List Placed) → length (values m) ≡ length m
length_values [] = refl
length_values (e ∷ m) = ap suc (length_values m)

-- a kept writer is a certified one that writes the item
pub kept_is_writer : (r : Setup) (m : List Placed) (i : Item) (c : Cert) → kept_writer r m i ≡ Some c → Mem c (certified r m) × (writes c i ≡ true)
kept_is_writer r [] i c h = absurd (cc h)
kept_is_writer r (e ∷ m) i c h = at_stable (if_writes i (cert_of r (suc (length m)) e) (kept_writer r m i)) refl (kept_is_writer r m i c)
  where
    at_writes : (o : Option Cert) → cert_of r (suc (length m)) e ≡ o → (kept_writer r m i ≡ Some c → Mem c (certified r m) × (writes c i ≡ true)) → if_writes i o (kept_writer r m i) ≡ Some c → Mem c (cons_some o (certified r m)) × (writes c i ≡ true)
    at_writes None p rec k = rec k
    at_writes (Some d) p rec k = at_test (writes d i) refl
      where
        at_test : (b : Bool) → writes d i ≡ b → Mem c (d ∷ certified r m) × (writes c i ≡ true)
        at_test true q =
            let k2 : Some d ≡ Some c = rw q at k in
            let x : d ≡ c = cc k2 in (inl x, ap (λ (z : Cert). writes z i) (sym x) ∙ q)
        at_test false q = let k2 : kept_writer r m i ≡ Some c = rw q at k in let x = rec k2 in (inr x.0, x.1)

    at_stable : (o : Option Cert) → if_writes i (cert_of r (suc (length m)) e) (kept_writer r m i) ≡ o → (kept_writer r m i ≡ Some c → Mem c (certified r m) × (writes c i ≡ true)) → Mem c (certified r (e ∷ m)) × (writes c i ≡ true)
    at_stable None p rec = let h2 : unless_stable r (e.value ∷ values m) None ≡ Some c = rw p at h in absurd (cc h2)
    at_stable (Some d) p rec = at_test (stable r (e.value ∷ values m) d.gtid) refl
      where
        h2 : cond (stable r (e.value ∷ values m) d.gtid) None (Some d) ≡ Some c
        h2 = rw p at h

        at_test : (b : Bool) → stable r (e.value ∷ values m) d.gtid ≡ b → Mem c (certified r (e ∷ m)) × (writes c i ≡ true)
        at_test true q = let h3 : None ≡ Some c = rw q at h2 in absurd (cc h3)
        at_test false q =
            let h3 : Some d ≡ Some c = rw q at h2 in
            at_writes (cert_of r (suc (length m)) e) refl rec (p ∙ h3)

-- the last writer of an item is kept until a stable set has it
pub last_is_kept : (r : Setup) (m : List Placed) (i : Item) (c : Cert) → Mem c (certified r m) → writes c i ≡ true → ((d : Cert) → Mem d (certified r m) → c.place < d.place → writes d i ≡ false) → ((q : List Value) → IsPast q (values m) → c.place ≤ length q → stable r q c.gtid ≡ false) → kept_writer r m i ≡ Some c
last_is_kept r [] i c h w l s = absurd h
last_is_kept r (e ∷ m) i c h w l s = go (cert_of r (suc (length m)) e) refl (λ k. last_is_kept r m i c k w (λ d n p. l d (cons_keeps (cert_of r (suc (length m)) e) (certified r m) d n) p) (λ q n p. s q (inr n) p))
  where
    unstable : stable r (e.value ∷ values m) c.gtid ≡ false
    unstable =
        let a = place_le r (e ∷ m) c h in
        let b = length_values m in s (e.value ∷ values m) (inl refl) (omega (arith, a, b))

    go : (o : Option Cert) → cert_of r (suc (length m)) e ≡ o → (Mem c (certified r m) → kept_writer r m i ≡ Some c) → kept_writer r (e ∷ m) i ≡ Some c
    go None p rec =
        let h2 : Mem c (certified r m) = rw p at h in
        let k = rec h2 in rw (p, k, unstable) refl
    go (Some d) p rec = split h2
      where
        h2 : (d ≡ c) ⊎ Mem c (certified r m)
        h2 = rw p at h

        n-is : d.place ≡ suc (length m)
        n-is = parts_place r (suc (length m)) e.value.origin e.value.number e.value.body e.outcome d p

        split : (d ≡ c) ⊎ Mem c (certified r m) → kept_writer r (e ∷ m) i ≡ Some c
        split (inl x) =
            let p2 : cert_of r (suc (length m)) e ≡ Some c = p ∙ ap Some x in rw (p2, w, unstable) refl
        split (inr k) =
            let a = place_le r m c k in
            let q = l d (rw p (inl refl)) (omega (arith, n-is, a)) in
            let y = rec k in rw (p, q, y, unstable) refl

-- a kept writer is the last one, and no stable set has had it
pub kept_is : (r : Setup) (m : List Placed) (i : Item) (c : Cert) → kept_writer r m i ≡ Some c → IsKept r m i c
kept_is r [] i c h = absurd (cc h)
kept_is r (e ∷ m) i c h = at_stable (if_writes i o (kept_writer r m i)) refl (kept_is r m i c)
  where
    n : ℕ
    n = suc (length m)

    o : Option Cert
    o = cert_of r (suc (length m)) e

    all : List Cert
    all = cons_some (cert_of r (suc (length m)) e) (certified r m)

    lv : length (values m) ≡ length m
    lv = length_values m

    -- the state before the stable set is looked at
    written : if_writes i (cert_of r (suc (length m)) e) (kept_writer r m i) ≡ Some c → (kept_writer r m i ≡ Some c → IsKept r m i c) → stable r (e.value ∷ values m) c.gtid ≡ false → IsKept r (e ∷ m) i c
    written k rec us = at_cert (cert_of r (suc (length m)) e) refl
      where
        older : IsKept r m i c → ((d : Cert) → cert_of r (suc (length m)) e ≡ Some d → writes d i ≡ false) → IsKept r (e ∷ m) i c
        older x none = record { positive = cons_keeps (cert_of r (suc (length m)) e) (certified r m) c x.positive; writer = x.writer; last = last; unstable = unstable }
          where
            last : (d : Cert) → Mem d (cons_some (cert_of r (suc (length m)) e) (certified r m)) → c.place < d.place → writes d i ≡ false
            last d y l = split (cons_cases (cert_of r (suc (length m)) e) (certified r m) d y)
              where
                split : (cert_of r (suc (length m)) e ≡ Some d) ⊎ Mem d (certified r m) → writes d i ≡ false
                split (inl q) = none d q
                split (inr q) = x.last d q l

            unstable : (p : List Value) → IsPast p (e.value ∷ values m) → c.place ≤ length p → stable r p c.gtid ≡ false
            unstable p (inl q) l = subst (λ (y : List Value). stable r y c.gtid ≡ false) (sym q) us
            unstable p (inr q) l = x.unstable p q l

        at_cert : (u : Option Cert) → cert_of r (suc (length m)) e ≡ u → IsKept r (e ∷ m) i c
        at_cert None q =
            let k2 : kept_writer r m i ≡ Some c = rw q at k in
            older (rec k2) (λ d z. (let y : None ≡ Some d = sym q ∙ z in absurd (cc y)))
        at_cert (Some d) q = at_writes (writes d i) refl
          where
            k2 : cond (writes d i) (Some d) (kept_writer r m i) ≡ Some c
            k2 = rw q at k

            place-is : d.place ≡ suc (length m)
            place-is = parts_place r (suc (length m)) e.value.origin e.value.number e.value.body e.outcome d q

            at_writes : (b : Bool) → writes d i ≡ b → IsKept r (e ∷ m) i c
            at_writes false z =
                let k3 : kept_writer r m i ≡ Some c = rw z at k2 in
                older (rec k3) (λ f y. (let g : Some d ≡ Some f = sym q ∙ y in let s : d ≡ f = cc g in ap (λ (u : Cert). writes u i) (sym s) ∙ z))
            at_writes true z =
                let k3 : Some d ≡ Some c = rw z at k2 in
                let dc : d ≡ c = cc k3 in
                let q2 : cert_of r (suc (length m)) e ≡ Some c = q ∙ k3 in
                let pl : d.place ≡ c.place = ap (λ (u : Cert). u.place) dc in
                record {
                  positive = rw q2 (inl refl);
                  writer = ap (λ (u : Cert). writes u i) (sym dc) ∙ z;
                  last = λ f y l. (let a = place_le r (e ∷ m) f y in absurd (omega (arith, a, l, pl, place-is)));
                  unstable = unstable;
                }
              where
                unstable : (p : List Value) → IsPast p (e.value ∷ values m) → c.place ≤ length p → stable r p c.gtid ≡ false
                unstable p (inl y) l = subst (λ (u : List Value). stable r u c.gtid ≡ false) (sym y) us
                unstable p (inr y) l =
                    let k3 : Some d ≡ Some c = rw z at k2 in
                    let dc : d ≡ c = cc k3 in
                    let pl : d.place ≡ c.place = ap (λ (u : Cert). u.place) dc in
                    let a = IsPast-length p (values m) y in absurd (omega (arith, a, l, pl, place-is, lv))

    at_stable : (u : Option Cert) → if_writes i (cert_of r (suc (length m)) e) (kept_writer r m i) ≡ u → (kept_writer r m i ≡ Some c → IsKept r m i c) → IsKept r (e ∷ m) i c
    at_stable None p rec = let h2 : unless_stable r (e.value ∷ values m) None ≡ Some c = rw p at h in absurd (cc h2)
    at_stable (Some d) p rec = at_test (stable r (e.value ∷ values m) d.gtid) refl
      where
        h2 : cond (stable r (e.value ∷ values m) d.gtid) None (Some d) ≡ Some c
        h2 = rw p at h

        at_test : (b : Bool) → stable r (e.value ∷ values m) d.gtid ≡ b → IsKept r (e ∷ m) i c
        at_test true q = let h3 : None ≡ Some c = rw q at h2 in absurd (cc h3)
        at_test false q =
            let h3 : Some d ≡ Some c = rw q at h2 in
            let dc : d ≡ c = cc h3 in
            written (p ∙ h3) rec (ap (λ (u : Cert). stable r (e.value ∷ values m) u.gtid) (sym dc) ∙ q)

-- the kept items are just these
pub kept_items : (r : Setup) (m : List Placed) (i : Item) (c : Cert) → (kept_writer r m i ≡ Some c) ↔ IsKept r m i c
kept_items r m i c = (kept_is r m i c, λ k. last_is_kept r m i c k.positive k.writer k.last k.unstable)

pub later_cases : (o u : Option Cert) (k : Cert) → later o u ≡ Some k → (o ≡ Some k) ⊎ (u ≡ Some k)
later_cases None u k h = inr h
later_cases (Some c) None k h = inl h
later_cases (Some c) (Some d) k h = go (ltb c.place d.place) refl
  where
    go : (b : Bool) → ltb c.place d.place ≡ b → (Some c ≡ Some k) ⊎ (Some d ≡ Some k)
    go true e = inr (let h2 : Some d ≡ Some k = rw e at h in h2)
    go false e = inl (let h2 : Some c ≡ Some k = rw e at h in h2)

pub later_left : (c : Cert) (u : Option Cert) → (k : Cert) × (later (Some c) u ≡ Some k) × (c.place ≤ k.place)
later_left c None = (c, refl, omega arith)
later_left c (Some d) = go (ltb c.place d.place) refl
  where
    go : (b : Bool) → ltb c.place d.place ≡ b → (k : Cert) × (cond (ltb c.place d.place) (Some d) (Some c) ≡ Some k) × (c.place ≤ k.place)
    go true e = let l = ltb-true c.place d.place e in (d, rw e refl, omega (arith, l))
    go false e = (c, rw e refl, omega arith)

pub later_right : (o : Option Cert) (d : Cert) → (k : Cert) × (later o (Some d) ≡ Some k) × (d.place ≤ k.place)
later_right None d = (d, refl, omega arith)
later_right (Some c) d = go (ltb c.place d.place) refl
  where
    go : (b : Bool) → ltb c.place d.place ≡ b → (k : Cert) × (cond (ltb c.place d.place) (Some d) (Some c) ≡ Some k) × (d.place ≤ k.place)
    go true e = (d, rw e refl, omega arith)
    go false e = let l = ltb-false c.place d.place e in (c, rw e refl, omega (arith, l))

pub outside_some : (t : Txn) (o : Option Cert) (k : Cert) → if_outside t o ≡ Some k → (o ≡ Some k) × (outside t k ≡ true)
outside_some t None k h = absurd (cc h)
outside_some t (Some c) k h = go (outside t c) refl
  where
    go : (b : Bool) → outside t c ≡ b → (Some c ≡ Some k) × (outside t k ≡ true)
    go true e = let h2 : Some c ≡ Some k = rw e at h in let x : c ≡ k = cc h2 in (h2, ap (outside t) (sym x) ∙ e)
    go false e = let h2 : None ≡ Some k = rw e at h in absurd (cc h2)

-- what the kept items answer is a kept writer of one of the items, outside the snapshot
pub blocker_is : (r : Setup) (m : List Placed) (t : Txn) (is : List Item) (k : Cert) → kept_blocker r m t is ≡ Some k → (i : Item) × Mem i is × (kept_writer r m i ≡ Some k) × (outside t k ≡ true)
blocker_is r m t [] k h = absurd (cc h)
blocker_is r m t (i ∷ is) k h = go (later_cases (if_outside t (kept_writer r m i)) (kept_blocker r m t is) k h) (blocker_is r m t is k)
  where
    go : (if_outside t (kept_writer r m i) ≡ Some k) ⊎ (kept_blocker r m t is ≡ Some k) → (kept_blocker r m t is ≡ Some k → (j : Item) × Mem j is × (kept_writer r m j ≡ Some k) × (outside t k ≡ true)) → (j : Item) × Mem j (i ∷ is) × (kept_writer r m j ≡ Some k) × (outside t k ≡ true)
    go (inl e) rec = let x = outside_some t (kept_writer r m i) k e in (i, inl refl, x.0, x.1)
    go (inr e) rec = let x = rec e in (x.0, inr x.1, x.2, x.3)

-- and it is as late as any of these
pub blocker_late : (r : Setup) (m : List Placed) (t : Txn) (is : List Item) (i : Item) (b : Cert) → Mem i is → kept_writer r m i ≡ Some b → outside t b ≡ true → (k : Cert) × (kept_blocker r m t is ≡ Some k) × (b.place ≤ k.place)
blocker_late r m t [] i b h w o = absurd h
blocker_late r m t (j ∷ is) i b (inl e) w o =
    let w2 : kept_writer r m j ≡ Some b = rw e w in
    let x = later_left b (kept_blocker r m t is) in
    (x.0, rw (w2, o) x.1, x.2)
blocker_late r m t (j ∷ is) i b (inr h) w o =
    let y = blocker_late r m t is i b h w o in
    let x = later_right (if_outside t (kept_writer r m j)) y.0 in
    (x.0, rw y.1 x.1, omega (arith, y.2, x.2))

module _ (r : Setup) (m : List Placed) (origin : Inc) (t : Txn) (f : FreshTxn r m origin t) where
  -- no stable set since its place has a writer outside the snapshot
  outside_unstable : (c : Cert) → Mem c (certified r m) → outside t c ≡ true → (q : List Value) → IsPast q (values m) → c.place ≤ length q → stable r q c.gtid ≡ false
  outside_unstable c i o q p l = go (stable r q c.gtid) refl (active r q origin) refl
    where
      out : has t.snapshot c.gtid ≡ false
      out = not-true (has t.snapshot c.gtid) o

      go : (s : Bool) → stable r q c.gtid ≡ s → (a : Bool) → active r q origin ≡ a → stable r q c.gtid ≡ false
      go false e a g = e
      go true e true g =
          let x = told_by q origin c.gtid (stable_told r q c.gtid origin e g) in
          let y = f.told x.0 x.1 (IsPast-mem q (values m) x.0 p x.2) x.3 c.gtid x.4 in
          absurd (both_ways (has t.snapshot c.gtid) out y)
      go true e false g =
          let n = not_yet_online r q (values m) origin p g in
          let y = f.before c i (omega (arith, n)) in
          absurd (both_ways (has t.snapshot c.gtid) out y)

  -- the last certified one that stands in the way is kept for the item that it shares
  blocker_kept : (b : Cert) → newest (blocks t) (certified r m) ≡ Some b → (i : Item) × Mem i t.items × (kept_writer r m i ≡ Some b) × (outside t b ≡ true)
  blocker_kept b h = (i, x.1, last_is_kept r m i b n.0 x.2 no_later (outside_unstable b n.0 bl.1), bl.1)
    where
      n : Mem b (certified r m) × (blocks t b ≡ true)
      n = newest_mem (blocks t) (certified r m) b h

      bl : (shares t b ≡ true) × (outside t b ≡ true)
      bl = and_parts (shares t b) (outside t b) n.1

      x : (i : Item) × Mem i t.items × (writes b i ≡ true)
      x = any_mem (writes b) t.items bl.0

      i : Item
      i = x.0

      no_later : (d : Cert) → Mem d (certified r m) → b.place < d.place → writes d i ≡ false
      no_later d k l = go (writes d i) refl (outside t d) refl
        where
          no_block : (shares t d && outside t d) ≡ false
          no_block = newest_place r (blocks t) m b d h k l

          go : (w : Bool) → writes d i ≡ w → (o : Bool) → outside t d ≡ o → writes d i ≡ false
          go false e o g = e
          go true e true g =
              let s = any_from (writes d) t.items i x.1 e in
              absurd (both_ways (blocks t d) no_block (and_from (shares t d) (outside t d) s g))
          go true e false g =
              let y = f.closed b d n.0 k l (record { item = i; of_txn = x.1; of_first = x.2; of_second = e }) (not-false (has t.snapshot d.gtid) g) in
              absurd (both_ways (has t.snapshot b.gtid) (not-true (has t.snapshot b.gtid) bl.1) y)

  blockers_agree : kept_blocker r m t t.items ≡ newest (blocks t) (certified r m)
  blockers_agree = go (newest (blocks t) (certified r m)) refl (kept_blocker r m t t.items) refl
    where
      blocks_kept : (k : Cert) → kept_blocker r m t t.items ≡ Some k → Mem k (certified r m) × (blocks t k ≡ true)
      blocks_kept k e =
          let x = blocker_is r m t t.items k e in
          let y = kept_is_writer r m x.0 k x.2 in
          (y.0, and_from (shares t k) (outside t k) (any_from (writes k) t.items x.0 x.1 y.1) x.3)

      go : (o : Option Cert) → newest (blocks t) (certified r m) ≡ o → (u : Option Cert) → kept_blocker r m t t.items ≡ u → kept_blocker r m t t.items ≡ newest (blocks t) (certified r m)
      go None e None g = g ∙ sym e
      go None e (Some k) g =
          let x = blocks_kept k g in
          absurd (both_ways (blocks t k) (newest_none (blocks t) (certified r m) k e x.0) x.1)
      go (Some b) e u g = same (cases_order b.place z.0.place)
        where
          y : (i : Item) × Mem i t.items × (kept_writer r m i ≡ Some b) × (outside t b ≡ true)
          y = blocker_kept b e

          z : (k : Cert) × (kept_blocker r m t t.items ≡ Some k) × (b.place ≤ k.place)
          z = blocker_late r m t t.items y.0 b y.1 y.2 y.3

          k-is : Mem z.0 (certified r m) × (blocks t z.0 ≡ true)
          k-is = blocks_kept z.0 z.1

          same : (b.place ≡ z.0.place) ⊎ ((b.place < z.0.place) ⊎ (z.0.place < b.place)) → kept_blocker r m t t.items ≡ newest (blocks t) (certified r m)
          same (inl p) =
              let q : b ≡ z.0 = same_place r m b z.0 ((newest_mem (blocks t) (certified r m) b e).0) k-is.0 p in
              z.1 ∙ ap Some (sym q) ∙ sym e
          same (inr (inl p)) = absurd (both_ways (blocks t z.0) (newest_place r (blocks t) m b z.0 e k-is.0 p) k-is.1)
          same (inr (inr p)) = let l = z.2 in absurd (omega (arith, l))

  pub fresh_txn : decided (next_number r (certified r m) origin) (kept_blocker r m t t.items) ≡ decided (next_number r (certified r m) origin) (newest (blocks t) (certified r m))
  fresh_txn = ap (decided (next_number r (certified r m) origin)) blockers_agree

pub fresh_same : (r : Setup) (m : List Placed) (origin : Inc) (b : Body) → FreshBody r m origin b → kept_outcome r m (record { origin = origin; number = 0; body = b }) ≡ scan_outcome r m (record { origin = origin; number = 0; body = b })
fresh_same r m origin (Write t) f = fresh_txn r m origin t f
fresh_same r m origin (Executed s) f = refl
fresh_same r m origin (Online s) f = refl
fresh_same r m origin (Joins j) f = refl
fresh_same r m origin (Leaves j) f = refl
fresh_same r m origin (Prepared g) f = refl
fresh_same r m origin (Switches j) f = refl
fresh_same r m origin (Appoints j) f = refl
fresh_same r m origin Plain f = refl

pub kept_is_scan : (r : Setup) (m : List Placed) (v : Value) → Fresh r m v → kept_outcome r m v ≡ scan_outcome r m v
kept_is_scan r m v f = fresh_same r m v.origin v.body f
