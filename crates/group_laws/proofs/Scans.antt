-- Lemmas on the list with its outcomes by scan.
use Rattle.std.proofs.Common.{◌≡◌, ◌⊎◌, inl, inr, ℕ, suc, ◌≤◌, ◌<◌, List, [], ◌∷◌, length, Option, Some, None, true, false, refl, sym, ◌∙◌, ap, subst, arith}
use Rattle.std.proofs.lemmas.Bool.{not-false}
use Rattle.group_rules.specs.Events.{Setup}
use Rattle.group_laws.specs.Lists.{Mem, IsPast, newest}
use Rattle.group_laws.specs.Names.{Inc, Gtid, has}
use Rattle.group_laws.specs.Entries.{Body, Write, Executed, Online, Joins, Leaves, Prepared, Switches, Appoints, Plain, Value, Placed, Cert, values, cert_parts, cert_of, cons_some, certified}
use Rattle.group_laws.specs.Verdict.{shares, outside, blocks, next_number, decided, scan_parts, scan_outcome, scan}
use Rattle.group_laws.proofs.Lists.{newest_none}
use Rattle.group_laws.proofs.Certs.{cons_cases, cons_keeps, place_le}
use Rattle.group_laws.proofs.Numbers.{num, Numbered, numbers_distinct}

pub values_scan : (r : Setup) (p : List Value) → values (scan r p) ≡ p
values_scan r [] = refl
values_scan r (v ∷ p) = ap (λ q. v ∷ q) (values_scan r p)

pub length_scan : (r : Setup) (p : List Value) → length (scan r p) ≡ length p
length_scan r [] = refl
length_scan r (v ∷ p) = ap suc (length_scan r p)

pub length_scan_values : (r : Setup) (p : List Value) → length (scan r (values (scan r p))) ≡ length p
length_scan_values r p = length_scan r (values (scan r p)) ∙ ap length (values_scan r p)

pub scan_past : (r : Setup) (b : List Placed) (p : List Value) → IsPast b (scan r p) → (b ≡ scan r (values b)) × IsPast (values b) p
scan_past r b [] h =
    let e : b ≡ [] = h in
    (e ∙ ap (λ (x : List Placed). scan r (values x)) (sym e), ap values e)
scan_past r b (v ∷ p) (inl e) =
    let f : values b ≡ v ∷ p = ap values e ∙ values_scan r (v ∷ p) in
    (e ∙ ap (scan r) (sym f), inl f)
scan_past r b (v ∷ p) (inr h) = let x = scan_past r b p h in (x.0, inr x.1)

-- what a certified transaction is, by scan
pub record ScanCert (r : Setup) (n : ℕ) (o : Inc) (id : ℕ) (b : Body) (cs : List Cert) (c : Cert) : Type 0 where
  pub place : c.place ≡ n
  pub origin : c.origin ≡ o
  pub id_is : c.id ≡ id
  pub number : num c ≡ next_number r cs o
  pub source : c.gtid.source ≡ r.limits.group
  pub body : b ≡ Write c.txn
  pub free : newest (blocks c.txn) cs ≡ None

pub scan_cert : (r : Setup) (n : ℕ) (o : Inc) (id : ℕ) (b : Body) (cs : List Cert) (c : Cert) → cert_parts r n o id b (scan_parts r cs o b) ≡ Some c → ScanCert r n o id b cs c
scan_cert r n o id (Write t) cs c h = go (newest (blocks t) cs) refl
  where
    go : (u : Option Cert) → newest (blocks t) cs ≡ u → ScanCert r n o id (Write t) cs c
    go None e =
        let h2 : cert_parts r n o id (Write t) (decided (next_number r cs o) None) ≡ Some c = rw e at h in
        let x : record { place = n; origin = o; id = id; gtid = record { source = r.limits.group; number = next_number r cs o }; txn = t } ≡ c = cc h2 in
        let tx : t ≡ c.txn = ap (λ (z : Cert). z.txn) x in
        record {
          place = ap (λ (z : Cert). z.place) (sym x);
          origin = ap (λ (z : Cert). z.origin) (sym x);
          id_is = ap (λ (z : Cert). z.id) (sym x);
          number = ap num (sym x);
          source = ap (λ (z : Cert). z.gtid.source) (sym x);
          body = ap Write tx;
          free = subst (λ y. newest (blocks y) cs ≡ None) tx e;
        }
    go (Some d) e =
        let h2 : cert_parts r n o id (Write t) (decided (next_number r cs o) (Some d)) ≡ Some c = rw e at h in absurd (cc h2)
scan_cert r n o id (Executed s) cs c h = absurd (cc h)
scan_cert r n o id (Online s) cs c h = absurd (cc h)
scan_cert r n o id (Joins s) cs c h = absurd (cc h)
scan_cert r n o id (Leaves s) cs c h = absurd (cc h)
scan_cert r n o id (Prepared s) cs c h = absurd (cc h)
scan_cert r n o id (Switches s) cs c h = absurd (cc h)
scan_cert r n o id (Appoints s) cs c h = absurd (cc h)
scan_cert r n o id Plain cs c h = absurd (cc h)

unfoldable pub head_cert : (r : Setup) (v : Value) (p : List Value) → Option Cert
head_cert r v p = cert_of r (suc (length (scan r p))) (record { value = v; outcome = scan_outcome r (scan r p) v })

pub head_is : (r : Setup) (v : Value) (p : List Value) (c : Cert) → head_cert r v p ≡ Some c → ScanCert r (suc (length (scan r p))) v.origin v.number v.body (certified r (scan r p)) c
unfolding head_cert
head_is r v p c h = scan_cert r (suc (length (scan r p))) v.origin v.number v.body (certified r (scan r p)) c h

pub scan_cases : (r : Setup) (v : Value) (p : List Value) (c : Cert) → Mem c (certified r (scan r (v ∷ p))) → (head_cert r v p ≡ Some c) ⊎ Mem c (certified r (scan r p))
unfolding head_cert
scan_cases r v p c h = cons_cases (head_cert r v p) (certified r (scan r p)) c h

pub scan_keeps : (r : Setup) (v : Value) (p : List Value) (c : Cert) → Mem c (certified r (scan r p)) → Mem c (certified r (scan r (v ∷ p)))
unfolding head_cert
scan_keeps r v p c h = cons_keeps (head_cert r v p) (certified r (scan r p)) c h

pub head_mem : (r : Setup) (v : Value) (p : List Value) (c : Cert) → head_cert r v p ≡ Some c → Mem c (certified r (scan r (v ∷ p)))
unfolding head_cert
head_mem r v p c h = rw h (inl refl)

pub scan_place : (r : Setup) (p : List Value) (c : Cert) → Mem c (certified r (scan r p)) → c.place ≤ length p
scan_place r p c h = let a = place_le r (scan r p) c h in let b = length_scan r p in omega (arith, a, b)

pub certified_mono : (r : Setup) (p k : List Value) (c : Cert) → IsPast p k → Mem c (certified r (scan r p)) → Mem c (certified r (scan r k))
certified_mono r p [] c h i = let e : p ≡ [] = h in subst (λ (x : List Value). Mem c (certified r (scan r x))) e i
certified_mono r p (v ∷ k) c (inl e) i = subst (λ (x : List Value). Mem c (certified r (scan r x))) e i
certified_mono r p (v ∷ k) c (inr h) i = scan_keeps r v k c (certified_mono r p k c h i)

pub certified_back : (r : Setup) (p k : List Value) (c : Cert) → IsPast p k → Mem c (certified r (scan r k)) → c.place ≤ length p → Mem c (certified r (scan r p))
certified_back r p [] c h i l = absurd i
certified_back r p (v ∷ k) c (inl e) i l = subst (λ (x : List Value). Mem c (certified r (scan r x))) (sym e) i
certified_back r p (v ∷ k) c (inr h) i l = go (scan_cases r v k c i) (λ j. certified_back r p k c h j l)
  where
    go : (head_cert r v k ≡ Some c) ⊎ Mem c (certified r (scan r k)) → (Mem c (certified r (scan r k)) → Mem c (certified r (scan r p))) → Mem c (certified r (scan r p))
    go (inl e) rec =
        let x = head_is r v k c e in
        let y : c.place ≡ suc (length (scan r k)) = x.place in
        let z = length_scan r k in
        let s = past_length p k h in absurd (omega (arith, y, z, s))
      where
        past_length : (xs ys : List Value) → IsPast xs ys → length xs ≤ length ys
        past_length xs [] f = rw f (omega arith)
        past_length xs (q ∷ ys) (inl f) = rw f (omega arith)
        past_length xs (q ∷ ys) (inr f) = let g = past_length xs ys f in omega arith
    go (inr j) rec = rec j

-- a positive transaction has in its snapshot each earlier one that shares an item
pub positive_has : (r : Setup) (p : List Value) (c d : Cert) → Mem c (certified r (scan r p)) → Mem d (certified r (scan r p)) → d.place < c.place → shares c.txn d ≡ true → has c.txn.snapshot d.gtid ≡ true
positive_has r [] c d i j l s = absurd i
positive_has r (v ∷ p) c d i j l s = go (scan_cases r v p c i) (scan_cases r v p d j) (λ a b. positive_has r p c d a b l s)
  where
    go : (head_cert r v p ≡ Some c) ⊎ Mem c (certified r (scan r p)) → (head_cert r v p ≡ Some d) ⊎ Mem d (certified r (scan r p)) → (Mem c (certified r (scan r p)) → Mem d (certified r (scan r p)) → has c.txn.snapshot d.gtid ≡ true) → has c.txn.snapshot d.gtid ≡ true
    go (inl e) (inl f) rec =
        let x = (head_is r v p c e).place in let y = (head_is r v p d f).place in absurd (omega (arith, x, y))
    go (inl e) (inr b) rec =
        let x = head_is r v p c e in
        let n : blocks c.txn d ≡ false = newest_none (blocks c.txn) (certified r (scan r p)) d x.free b in
        let n2 : outside c.txn d ≡ false = rw s at n in
        not-false (has c.txn.snapshot d.gtid) n2
    go (inr a) (inl f) rec =
        let y = (head_is r v p d f).place in let x = place_le r (scan r p) c a in absurd (omega (arith, x, y))
    go (inr a) (inr b) rec = rec a b

pub scan_numbered : (r : Setup) (p : List Value) → Numbered r.limits.block (certified r (scan r p))
unfolding head_cert
scan_numbered r [] = tt
scan_numbered r (v ∷ p) = go (head_cert r v p) refl (scan_numbered r p)
  where
    go : (o : Option Cert) → head_cert r v p ≡ o → Numbered r.limits.block (certified r (scan r p)) → Numbered r.limits.block (cons_some o (certified r (scan r p)))
    go None e rec = rec
    go (Some c) e rec =
        let x = head_is r v p c e in
        (x.number ∙ ap (λ o. next_number r (certified r (scan r p)) o) (sym x.origin), rec)

-- distinct places have distinct GTIDs
pub gtids_distinct : (r : Setup) → 0 < r.limits.block → (p : List Value) (c d : Cert) → Mem c (certified r (scan r p)) → Mem d (certified r (scan r p)) → c.gtid ≡ d.gtid → c ≡ d
gtids_distinct r h p c d i j e =
    numbers_distinct r.limits.block h (certified r (scan r p)) (scan_numbered r p) c d i j (ap (λ (g : Gtid). g.number) e)

pub cert_source : (r : Setup) (p : List Value) (c : Cert) → Mem c (certified r (scan r p)) → c.gtid.source ≡ r.limits.group
cert_source r [] c i = absurd i
cert_source r (v ∷ p) c i = go (scan_cases r v p c i) (cert_source r p c)
  where
    go : (head_cert r v p ≡ Some c) ⊎ Mem c (certified r (scan r p)) → (Mem c (certified r (scan r p)) → c.gtid.source ≡ r.limits.group) → c.gtid.source ≡ r.limits.group
    go (inl e) rec = (head_is r v p c e).source
    go (inr a) rec = rec a

-- the value that a certified transaction stands in
pub record CertValue (p : List Value) (c : Cert) : Type 0 where
  pub value : Value
  pub there : Mem value p
  pub origin : value.origin ≡ c.origin
  pub number : value.number ≡ c.id
  pub body : value.body ≡ Write c.txn

pub cert_value : (r : Setup) (p : List Value) (c : Cert) → Mem c (certified r (scan r p)) → CertValue p c
cert_value r [] c i = absurd i
cert_value r (v ∷ p) c i = go (scan_cases r v p c i) (cert_value r p c)
  where
    go : (head_cert r v p ≡ Some c) ⊎ Mem c (certified r (scan r p)) → (Mem c (certified r (scan r p)) → CertValue p c) → CertValue (v ∷ p) c
    go (inl e) rec =
        let x = head_is r v p c e in record { value = v; there = inl refl; origin = sym x.origin; number = sym x.id_is; body = x.body }
    go (inr a) rec = let x = rec a in record { value = x.value; there = inr x.there; origin = x.origin; number = x.number; body = x.body }
