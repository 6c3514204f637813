-- Lemmas on rows.
use Rattle.std.proofs.Common.{◌≡◌, ◌⊎◌, inl, inr, ℕ, ◌<◌, List, [], ◌∷◌, length, Option, Some, None, Bool, true, false, cond, ◌||◌, refl, sym, ◌∙◌, ap, subst, arith}
use Rattle.std.proofs.lemmas.Bool.{both_ways, or_left, or_right, false_from_ne_true}
use Rattle.group_rules.specs.Events.{Setup}
use Rattle.group_rules.specs.Rows.{fits, row_after}
use Rattle.group_laws.specs.Lists.{Mem, IsPast}
use Rattle.group_laws.specs.Names.{Gtid, gtid_eq, Item, item_eq, Change}
use Rattle.group_laws.specs.Entries.{Value, Cert, certified, cons_some}
use Rattle.group_laws.specs.Verdict.{writes, scan}
use Rattle.group_laws.specs.Table.{Rows, put, applied, Fits, rows_of, Covers}
use Rattle.group_laws.proofs.Lists.{any_from, IsPast-length}
use Rattle.group_laws.proofs.Names.{item_eq_same, item_eq_itself, gtid_eq_same, gtid_eq_itself}
use Rattle.group_laws.proofs.Scans.{head_cert, head_is, head_mem, scan_cases, scan_keeps, scan_place, length_scan, gtids_distinct, certified_mono}
use Rattle.group_laws.proofs.Law.{Ext}

pub put_at : (i : Item) (row : Option (List ℕ)) (a b : Rows) (j : Item) → a j ≡ b j → put i row a j ≡ put i row b j
put_at i row a b j e = ap (λ x. cond (item_eq i j) row x) e

pub applied_at : (cs : List Change) (a b : Rows) (j : Item) → a j ≡ b j → applied cs a j ≡ applied cs b j
applied_at [] a b j e = e
applied_at (c ∷ cs) a b j e = applied_at cs (put c.item (row_after c.what) a) (put c.item (row_after c.what) b) j (put_at c.item (row_after c.what) a b j e)

pub applied_none : (cs : List Change) (a : Rows) (j : Item) → ((c : Change) → Mem c cs → item_eq c.item j ≡ false) → applied cs a j ≡ a j
applied_none [] a j h = refl
applied_none (c ∷ cs) a j h =
    let x = applied_none cs (put c.item (row_after c.what) a) j (λ d i. h d (inr i)) in
    let e : item_eq c.item j ≡ false = h c (inl refl) in
    let y : put c.item (row_after c.what) a j ≡ a j = rw e refl in x ∙ y

-- what is not in the write set is left alone
pub untouched : (c : Cert) (j : Item) (a : Rows) → Covers c.txn → writes c j ≡ false → applied c.txn.changes a j ≡ a j
untouched c j a cov w = applied_none c.txn.changes a j (λ ch i. false_from_ne_true (item_eq ch.item j) (λ e. no_way ch i e))
  where
    no_way : (ch : Change) → Mem ch c.txn.changes → item_eq ch.item j ≡ true → ⊥
    no_way ch i e =
        let s : ch.item ≡ j = item_eq_same ch.item j e in
        let m : Mem j c.txn.items = subst (λ (y : Item). Mem y c.txn.items) s (cov ch i) in
        both_ways (writes c j) w (any_from (item_eq j) c.txn.items j m (item_eq_itself j))

-- the row after one more transaction, which doesn't write it
pub passed_by : (c : Cert) (cs : List Cert) (e : Gtid → Bool) (j : Item) → (e c.gtid ≡ true → Covers c.txn) → writes c j ≡ false → rows_of (c ∷ cs) e j ≡ rows_of cs e j
passed_by c cs e j cov w = go (e c.gtid) refl
  where
    go : (b : Bool) → e c.gtid ≡ b → rows_of (c ∷ cs) e j ≡ rows_of cs e j
    go true h = rw h (untouched c j (rows_of cs e) (cov h) w)
    go false h = rw h refl

-- the rows are those of the sets at the transactions that write them
pub rows_agree : (cs : List Cert) (e f : Gtid → Bool) (j : Item) → ((c : Cert) → Mem c cs → e c.gtid ≡ true → Covers c.txn) → ((c : Cert) → Mem c cs → f c.gtid ≡ true → Covers c.txn) → ((c : Cert) → Mem c cs → writes c j ≡ true → e c.gtid ≡ f c.gtid) → rows_of cs e j ≡ rows_of cs f j
rows_agree [] e f j ce cf h = refl
rows_agree (c ∷ cs) e f j ce cf h = go (writes c j) refl (rows_agree cs e f j (λ d i. ce d (inr i)) (λ d i. cf d (inr i)) (λ d i. h d (inr i)))
  where
    go : (b : Bool) → writes c j ≡ b → rows_of cs e j ≡ rows_of cs f j → rows_of (c ∷ cs) e j ≡ rows_of (c ∷ cs) f j
    go false w rec = passed_by c cs e j (ce c (inl refl)) w ∙ rec ∙ sym (passed_by c cs f j (cf c (inl refl)) w)
    go true w rec =
        let q : e c.gtid ≡ f c.gtid = h c (inl refl) w in
        let a : applied c.txn.changes (rows_of cs e) j ≡ applied c.txn.changes (rows_of cs f) j = applied_at c.txn.changes (rows_of cs e) (rows_of cs f) j rec in
        ap (λ b. cond b (applied c.txn.changes (rows_of cs e) j) (rows_of cs e j)) q ∙ both (f c.gtid) a rec
      where
        both : (b : Bool) → applied c.txn.changes (rows_of cs e) j ≡ applied c.txn.changes (rows_of cs f) j → rows_of cs e j ≡ rows_of cs f j → cond b (applied c.txn.changes (rows_of cs e) j) (rows_of cs e j) ≡ cond b (applied c.txn.changes (rows_of cs f) j) (rows_of cs f j)
        both true a r = a
        both false a r = r

-- what a set has up to a place leaves the same rows over a longer list
pub rows_longer : (r : Setup) (p k : List Value) (e : Gtid → Bool) (j : Item) → IsPast p k → ((c : Cert) → Mem c (certified r (scan r k)) → length p < c.place → e c.gtid ≡ false) → rows_of (certified r (scan r k)) e j ≡ rows_of (certified r (scan r p)) e j
unfolding head_cert
rows_longer r p [] e j h f = let q : p ≡ [] = h in ap (λ (y : List Value). rows_of (certified r (scan r y)) e j) (sym q)
rows_longer r p (v ∷ k) e j (inl q) f = ap (λ (y : List Value). rows_of (certified r (scan r y)) e j) (sym q)
rows_longer r p (v ∷ k) e j (inr h) f = go (head_cert r v k) refl (rows_longer r p k e j h (λ c i l. f c (certified_mono r k (v ∷ k) c (inr (self k)) i) l))
  where
    self : (ys : List Value) → IsPast ys ys
    self [] = refl
    self (y ∷ ys) = inl refl

    go : (o : Option Cert) → head_cert r v k ≡ o → rows_of (certified r (scan r k)) e j ≡ rows_of (certified r (scan r p)) e j → rows_of (cons_some o (certified r (scan r k))) e j ≡ rows_of (certified r (scan r p)) e j
    go None q rec = rec
    go (Some c) q rec =
        let x = (head_is r v k c q).place in
        let y = length_scan r k in
        let z = IsPast-length p k h in
        let n : e c.gtid ≡ false = f c (head_mem r v k c q) (omega (arith, x, y, z)) in
        rw n rec

-- one more transaction of a set that has all earlier ones, and no later one, that write the row
pub rows_commit : (r : Setup) → 0 < r.limits.block → (k : List Value) (c0 : Cert) (e : Gtid → Bool) (j : Item) → Mem c0 (certified r (scan r k)) → writes c0 j ≡ true → e c0.gtid ≡ false → ((c : Cert) → Mem c (certified r (scan r k)) → Ext c0.gtid e c.gtid ≡ true → Covers c.txn) → ((c : Cert) → Mem c (certified r (scan r k)) → c0.place < c.place → writes c j ≡ true → e c.gtid ≡ false) → rows_of (certified r (scan r k)) (Ext c0.gtid e) j ≡ applied c0.txn.changes (rows_of (certified r (scan r k)) e) j
unfolding head_cert
rows_commit r b [] c0 e j i w n cov late = absurd i
rows_commit r b (v ∷ k) c0 e j i w n cov late = go (head_cert r v k) refl (scan_cases r v k c0 i) (λ i2. rows_commit r b k c0 e j i2 w n (λ c x. cov c (more c x)) (λ c x. late c (more c x)))
  where
    cs : List Cert
    cs = certified r (scan r k)

    more : (c : Cert) → Mem c (certified r (scan r k)) → Mem c (certified r (scan r (v ∷ k)))
    more c x = scan_keeps r v k c x

    differ : (c : Cert) → Mem c (certified r (scan r (v ∷ k))) → (c0 ≡ c → ⊥) → gtid_eq c0.gtid c.gtid ≡ false
    differ c x ne = false_from_ne_true (gtid_eq c0.gtid c.gtid) (λ q. ne (gtids_distinct r b (v ∷ k) c0 c i x (gtid_eq_same c0.gtid c.gtid q)))

    ext_or : (c : Cert) → e c.gtid ≡ true → Ext c0.gtid e c.gtid ≡ true
    ext_or c q = or_right (gtid_eq c0.gtid c.gtid) (e c.gtid) q

    go : (o : Option Cert) → head_cert r v k ≡ o → (head_cert r v k ≡ Some c0) ⊎ Mem c0 (certified r (scan r k)) → (Mem c0 (certified r (scan r k)) → rows_of (certified r (scan r k)) (Ext c0.gtid e) j ≡ applied c0.txn.changes (rows_of (certified r (scan r k)) e) j) → rows_of (cons_some o (certified r (scan r k))) (Ext c0.gtid e) j ≡ applied c0.txn.changes (rows_of (cons_some o (certified r (scan r k))) e) j
    go None q (inl p) rec = let x : None ≡ Some c0 = sym q ∙ p in absurd (cc x)
    go None q (inr p) rec = rec p
    go (Some x) q (inl p) rec =
        let xs : Some x ≡ Some c0 = sym q ∙ p in
        let xc : x ≡ c0 = cc xs in
        subst (λ (y : Cert). rows_of (y ∷ certified r (scan r k)) (Ext c0.gtid e) j ≡ applied c0.txn.changes (rows_of (y ∷ certified r (scan r k)) e) j) (sym xc) at_head
      where
        here : Ext c0.gtid e c0.gtid ≡ true
        here = or_left (gtid_eq c0.gtid c0.gtid) (e c0.gtid) (gtid_eq_itself c0.gtid)

        below : (c : Cert) → Mem c (certified r (scan r k)) → c0 ≡ c → ⊥
        below c y s =
            let a = (head_is r v k c0 p).place in
            let z = length_scan r k in
            let d = scan_place r k c y in
            let t : c0.place ≡ c.place = ap (λ (u : Cert). u.place) s in
            omega (arith, a, z, d, t)

        agree : rows_of (certified r (scan r k)) (Ext c0.gtid e) j ≡ rows_of (certified r (scan r k)) e j
        agree = rows_agree (certified r (scan r k)) (Ext c0.gtid e) e j (λ c y. cov c (more c y)) (λ c y z. cov c (more c y) (ext_or c z)) (λ c y u. drop-same c y)
          where
            drop-same : (c : Cert) → Mem c (certified r (scan r k)) → Ext c0.gtid e c.gtid ≡ e c.gtid
            drop-same c y = let z : gtid_eq c0.gtid c.gtid ≡ false = differ c (more c y) (below c y) in rw z refl

        right : rows_of (c0 ∷ certified r (scan r k)) e j ≡ rows_of (certified r (scan r k)) e j
        right = rw n refl

        left : rows_of (c0 ∷ certified r (scan r k)) (Ext c0.gtid e) j ≡ applied c0.txn.changes (rows_of (certified r (scan r k)) (Ext c0.gtid e)) j
        left = rw here refl

        at_head : rows_of (c0 ∷ certified r (scan r k)) (Ext c0.gtid e) j ≡ applied c0.txn.changes (rows_of (c0 ∷ certified r (scan r k)) e) j
        at_head = left ∙ applied_at c0.txn.changes (rows_of (certified r (scan r k)) (Ext c0.gtid e)) (rows_of (c0 ∷ certified r (scan r k)) e) j (agree ∙ sym right)
    go (Some x) q (inr p) rec = at_writes (writes x j) refl
      where
        x-in : Mem x (certified r (scan r (v ∷ k)))
        x-in = head_mem r v k x q

        later : c0.place < x.place
        later =
            let a = (head_is r v k x q).place in
            let z = length_scan r k in
            let d = scan_place r k c0 p in omega (arith, a, z, d)

        apart : gtid_eq c0.gtid x.gtid ≡ false
        apart = differ x x-in (λ s. (let t : c0.place ≡ x.place = ap (λ (u : Cert). u.place) s in omega (arith, later, t)))

        finish : rows_of (x ∷ certified r (scan r k)) (Ext c0.gtid e) j ≡ rows_of (certified r (scan r k)) (Ext c0.gtid e) j → rows_of (x ∷ certified r (scan r k)) e j ≡ rows_of (certified r (scan r k)) e j → rows_of (x ∷ certified r (scan r k)) (Ext c0.gtid e) j ≡ applied c0.txn.changes (rows_of (x ∷ certified r (scan r k)) e) j
        finish a d = a ∙ rec p ∙ applied_at c0.txn.changes (rows_of (certified r (scan r k)) e) (rows_of (x ∷ certified r (scan r k)) e) j (sym d)

        at_writes : (u : Bool) → writes x j ≡ u → rows_of (x ∷ certified r (scan r k)) (Ext c0.gtid e) j ≡ applied c0.txn.changes (rows_of (x ∷ certified r (scan r k)) e) j
        at_writes true u =
            let ne : e x.gtid ≡ false = late x x-in later u in
            let ne2 : Ext c0.gtid e x.gtid ≡ false = or_both (gtid_eq c0.gtid x.gtid) (e x.gtid) apart ne in
            finish (rw ne2 refl) (rw ne refl)
          where
            or_both : (y z : Bool) → y ≡ false → z ≡ false → (y || z) ≡ false
            or_both y z f g = rw (f, g) refl
        at_writes false u = finish (passed_by x (certified r (scan r k)) (Ext c0.gtid e) j (cov x x-in) u) (passed_by x (certified r (scan r k)) e j (λ z. cov x x-in (ext_or x z)) u)

-- whether changes fit depends on their own rows alone
pub fits_agree : (cs : List Change) (a b : Rows) → ((c : Change) → Mem c cs → a c.item ≡ b c.item) → Fits cs a → Fits cs b
fits_agree [] a b h f = tt
fits_agree (c ∷ cs) a b h f = (
  subst (λ y. fits c.what y ≡ true) (h c (inl refl)) f.0,
  fits_agree cs (put c.item (row_after c.what) a) (put c.item (row_after c.what) b) (λ d i. put_at c.item (row_after c.what) a b d.item (h d (inr i))) f.1,
)
