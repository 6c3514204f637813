-- Lemmas on the certified transactions of a list.
use Rattle.std.proofs.Common.{◌≡◌, ◌⊎◌, inl, inr, ℕ, suc, ◌≤◌, ◌<◌, List, [], ◌∷◌, length, Option, Some, None, Bool, true, false, cond, refl, sym, ◌∙◌, ap, arith}
use Rattle.group_rules.specs.Events.{Setup}
use Rattle.group_laws.specs.Lists.{Mem, newest}
use Rattle.group_laws.specs.Names.{Inc}
use Rattle.group_laws.specs.Entries.{Body, Write, Executed, Online, Joins, Leaves, Prepared, Switches, Appoints, Plain, Outcome, Positive, Conflict, NoTxn, Placed, Cert, cert_parts, cert_of, cons_some, certified}

pub parts_place : (r : Setup) (n : ℕ) (o : Inc) (id : ℕ) (b : Body) (u : Outcome) (c : Cert) → cert_parts r n o id b u ≡ Some c → c.place ≡ n
parts_place r n o id (Write t) (Positive k) c h =
    let e : record { place = n; origin = o; id = id; gtid = record { source = r.limits.group; number = k }; txn = t } ≡ c = cc h in ap (λ (d : Cert). d.place) (sym e)
parts_place r n o id (Write t) (Conflict g) c h = absurd (cc h)
parts_place r n o id (Write t) NoTxn c h = absurd (cc h)
parts_place r n o id (Executed s) u c h = absurd (cc h)
parts_place r n o id (Online s) u c h = absurd (cc h)
parts_place r n o id (Joins s) u c h = absurd (cc h)
parts_place r n o id (Leaves s) u c h = absurd (cc h)
parts_place r n o id (Prepared s) u c h = absurd (cc h)
parts_place r n o id (Switches s) u c h = absurd (cc h)
parts_place r n o id (Appoints s) u c h = absurd (cc h)
parts_place r n o id Plain u c h = absurd (cc h)

-- an element of a list with perhaps one more
pub cons_cases : {A : Type 0} (o : Option A) (xs : List A) (x : A) → Mem x (cons_some o xs) → (o ≡ Some x) ⊎ Mem x xs
cons_cases None xs x h = inr h
cons_cases (Some y) xs x (inl e) = inl (ap Some e)
cons_cases (Some y) xs x (inr h) = inr h

pub cons_keeps : {A : Type 0} (o : Option A) (xs : List A) (x : A) → Mem x xs → Mem x (cons_some o xs)
cons_keeps None xs x h = h
cons_keeps (Some y) xs x h = inr h

pub place_le : (r : Setup) (m : List Placed) (c : Cert) → Mem c (certified r m) → c.place ≤ length m
place_le r [] c h = absurd h
place_le r (e ∷ m) c h = go (cons_cases (cert_of r (suc (length m)) e) (certified r m) c h) (place_le r m c)
  where
    go : (cert_of r (suc (length m)) e ≡ Some c) ⊎ Mem c (certified r m) → (Mem c (certified r m) → c.place ≤ length m) → c.place ≤ suc (length m)
    go (inl p) rec = let q = parts_place r (suc (length m)) e.value.origin e.value.number e.value.body e.outcome c p in omega arith
    go (inr k) rec = let q = rec k in omega arith

pub same_place : (r : Setup) (m : List Placed) (c d : Cert) → Mem c (certified r m) → Mem d (certified r m) → c.place ≡ d.place → c ≡ d
same_place r [] c d h k e = absurd h
same_place r (x ∷ m) c d h k e = go (cons_cases (cert_of r (suc (length m)) x) (certified r m) c h) (cons_cases (cert_of r (suc (length m)) x) (certified r m) d k) (λ p q. same_place r m c d p q e)
  where
    go : (cert_of r (suc (length m)) x ≡ Some c) ⊎ Mem c (certified r m) → (cert_of r (suc (length m)) x ≡ Some d) ⊎ Mem d (certified r m) → (Mem c (certified r m) → Mem d (certified r m) → c ≡ d) → c ≡ d
    go (inl p) (inl q) rec = let pq : Some c ≡ Some d = sym p ∙ q in cc pq
    go (inl p) (inr q) rec =
        let a = parts_place r (suc (length m)) x.value.origin x.value.number x.value.body x.outcome c p in
        let b = place_le r m d q in absurd (omega arith)
    go (inr p) (inl q) rec =
        let a = parts_place r (suc (length m)) x.value.origin x.value.number x.value.body x.outcome d q in
        let b = place_le r m c p in absurd (omega arith)
    go (inr p) (inr q) rec = rec p q

-- the newest certified one that passes: none of a greater place does
pub newest_place : (r : Setup) (test : Cert → Bool) (m : List Placed) (b d : Cert) → newest test (certified r m) ≡ Some b → Mem d (certified r m) → b.place < d.place → test d ≡ false
newest_place r test [] b d h k l = absurd k
newest_place r test (x ∷ m) b d h k l = go (cert_of r (suc (length m)) x) refl (λ h2 k2. newest_place r test m b d h2 k2 l)
  where
    go : (o : Option Cert) → cert_of r (suc (length m)) x ≡ o → (newest test (certified r m) ≡ Some b → Mem d (certified r m) → test d ≡ false) → test d ≡ false
    go None e rec =
        let h2 : newest test (certified r m) ≡ Some b = rw e at h in
        let k2 : Mem d (certified r m) = rw e at k in rec h2 k2
    go (Some y) e rec = at_test (test y) refl
      where
        n-is : y.place ≡ suc (length m)
        n-is = parts_place r (suc (length m)) x.value.origin x.value.number x.value.body x.outcome y e

        h2 : cond (test y) (Some y) (newest test (certified r m)) ≡ Some b
        h2 = rw e at h

        k2 : (y ≡ d) ⊎ Mem d (certified r m)
        k2 = rw e at k

        at_test : (v : Bool) → test y ≡ v → test d ≡ false
        at_test true f =
            let h3 : Some y ≡ Some b = rw f at h2 in
            let yb : y ≡ b = cc h3 in
            let yp : y.place ≡ b.place = ap (λ (z : Cert). z.place) yb in
            let p = place_le r (x ∷ m) d k in absurd (omega (arith, n-is, p, yp))
        at_test false f = split k2
          where
            split : (y ≡ d) ⊎ Mem d (certified r m) → test d ≡ false
            split (inl q) = ap test (sym q) ∙ f
            split (inr q) = let h3 : newest test (certified r m) ≡ Some b = rw f at h2 in rec h3 q
