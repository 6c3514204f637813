-- The certified transactions that are known, by ascending place, and the rows that they leave.
use Rattle.std.proofs.Common.{◌≡◌, ◌⊎◌, inl, inr, ℕ, suc, ◌≤◌, Bool, true, false, ◌||◌, Option, List, [], ◌∷◌, ◌++◌, refl, sym, ap, subst, ◌∙◌, arith}
use Rattle.std.specs.Prelude.{nat_lt, reverse}
use Rattle.std.specs.List.{list_any}
use Rattle.std.proofs.lemmas.Bool.{false≢true, leb-true, leb-false}
use Rattle.std.proofs.lemmas.List.{reverse-append}
use Rattle.key_items.specs.declared.item.Item.{Item}
use Rattle.key_items.specs.declared.change.Change.{Change}
use Rattle.key_items.specs.Items.{item_eq}
use Rattle.key_items.proofs.Order.{item_eq_itself, item_eq_same}
use Rattle.gtid_sets.specs.Sets.{Gtids, has}
use Rattle.node_rules.specs.Lists.{In}
use Rattle.group_rules.specs.Events.{Cert}
use Rattle.group_rules.specs.Rows.{row_after, changed_row, row_by, with_cert, all_in}
use Rattle.row_store.specs.Following.{AreApart}

-- ---- what a list has

in_end : {A : Type 0} (x y : A) (xs : List A) → In x (xs ++ y ∷ []) → (y ≡ x) ⊎ In x xs
in_end x y [] m = elim m [ inl same ↦ inl same | inr n ↦ absurd n ]
in_end x y (z ∷ zs) (inl same) = inr (inl same)
in_end x y (z ∷ zs) (inr n) = elim (in_end x y zs n) [ inl same ↦ inl same | inr k ↦ inr (inr k) ]

pub in_reverse : (x : Cert) (xs : List Cert) → In x (reverse xs) → In x xs
in_reverse x [] m = m
in_reverse x (y ∷ ys) m = elim (in_end x y (reverse ys) (subst (In x) (reverse-append (y ∷ []) ys) m)) [ inl same ↦ inl same | inr n ↦ inr (in_reverse x ys n) ]

pub in_front : {A : Type 0} (x : A) (xs ys : List A) → In x xs → In x (xs ++ ys)
in_front x [] ys m = absurd m
in_front x (y ∷ xs) ys (inl e) = inl e
in_front x (y ∷ xs) ys (inr m) = inr (in_front x xs ys m)

pub in_back : {A : Type 0} (x : A) (xs ys : List A) → In x ys → In x (xs ++ ys)
in_back x [] ys m = m
in_back x (y ∷ xs) ys m = inr (in_back x xs ys m)

pub in_either : {A : Type 0} (x : A) (xs ys : List A) → In x (xs ++ ys) → In x xs ⊎ In x ys
in_either x [] ys m = inr m
in_either x (y ∷ xs) ys (inl e) = inl (inl e)
in_either x (y ∷ xs) ys (inr m) = elim (in_either x xs ys m) [ inl n ↦ inl (inr n) | inr n ↦ inr n ]

in_with : (xs : List Cert) (c y : Cert) → In y (with_cert xs c) → (c ≡ y) ⊎ In y xs
in_with [] c y h = elim h [ inl e ↦ inl e | inr k ↦ absurd k ]
in_with (x ∷ xs) c y h = go (nat_lt c.place x.place) h (in_with xs c y)
  where
    go : (b : Bool) → In y (elim b [ true ↦ c ∷ x ∷ xs | false ↦ x ∷ with_cert xs c ]) → (In y (with_cert xs c) → (c ≡ y) ⊎ In y xs) → (c ≡ y) ⊎ In y (x ∷ xs)
    go true (inl e) f = inl e
    go true (inr k) f = inr k
    go false (inl e) f = inr (inl e)
    go false (inr k) f = elim (f k) [ inl e ↦ inl e | inr m ↦ inr (inr m) ]

pub with_new : (xs : List Cert) (c : Cert) → In c (with_cert xs c)
with_new [] c = inl refl
with_new (x ∷ xs) c = go (nat_lt c.place x.place) (with_new xs c)
  where
    go : (b : Bool) → In c (with_cert xs c) → In c (elim b [ true ↦ c ∷ x ∷ xs | false ↦ x ∷ with_cert xs c ])
    go true k = inl refl
    go false k = inr k

pub with_old : (xs : List Cert) (c y : Cert) → In y xs → In y (with_cert xs c)
with_old [] c y h = absurd h
with_old (x ∷ xs) c y h = go (nat_lt c.place x.place) h (with_old xs c y)
  where
    go : (b : Bool) → (x ≡ y) ⊎ In y xs → (In y xs → In y (with_cert xs c)) → In y (elim b [ true ↦ c ∷ x ∷ xs | false ↦ x ∷ with_cert xs c ])
    go true k f = inr k
    go false (inl e) f = inl e
    go false (inr k) f = inr (f k)

pub in_all : (xs cs : List Cert) (y : Cert) → In y (all_in xs cs) → In y xs ⊎ In y cs
in_all xs [] y h = inl h
in_all xs (c ∷ cs) y h = elim (in_with (all_in xs cs) c y h) [ inl e ↦ inr (inl e) | inr k ↦ elim (in_all xs cs y k) [ inl m ↦ inl m | inr m ↦ inr (inr m) ] ]

pub all_first : (xs cs : List Cert) (y : Cert) → In y xs → In y (all_in xs cs)
all_first xs [] y h = h
all_first xs (c ∷ cs) y h = with_old (all_in xs cs) c y (all_first xs cs y h)

pub all_second : (xs cs : List Cert) (y : Cert) → In y cs → In y (all_in xs cs)
all_second xs [] y h = absurd h
all_second xs (c ∷ cs) y (inl e) = subst (λ z. In z (all_in xs (c ∷ cs))) e (with_new (all_in xs cs) c)
all_second xs (c ∷ cs) y (inr h) = with_old (all_in xs cs) c y (all_second xs cs y h)

-- ---- in order

abbrev pub Rises : List Cert → Type 0
Rises [] = Unit {0}
Rises (c ∷ cs) = ((d : Cert) → In d cs → c.place ≤ d.place) × Rises cs

with_rises : (xs : List Cert) (c : Cert) → Rises xs → Rises (with_cert xs c)
with_rises [] c h = ((λ d m. absurd m), tt)
with_rises (x ∷ xs) c h = go (nat_lt c.place x.place) refl (with_rises xs c h.1)
  where
    go : (b : Bool) → nat_lt c.place x.place ≡ b → Rises (with_cert xs c) → Rises (elim b [ true ↦ c ∷ x ∷ xs | false ↦ x ∷ with_cert xs c ])
    go true e k = ((λ d m. below d m), h)
      where
        below : (d : Cert) → (x ≡ d) ⊎ In d xs → c.place ≤ d.place
        below d (inl q) = let z = leb-true (suc c.place) x.place e in subst (λ (y : Cert). c.place ≤ y.place) q (omega (arith, z))
        below d (inr m) = let z = leb-true (suc c.place) x.place e in let y = h.0 d m in omega (arith, z, y)
    go false e k = ((λ d m. above d (in_with xs c d m)), k)
      where
        above : (d : Cert) → (c ≡ d) ⊎ In d xs → x.place ≤ d.place
        above d (inl q) = let z = leb-false (suc c.place) x.place e in subst (λ (y : Cert). x.place ≤ y.place) q (omega (arith, z))
        above d (inr m) = h.0 d m

pub all_rises : (xs cs : List Cert) → Rises xs → Rises (all_in xs cs)
all_rises xs [] h = h
all_rises xs (c ∷ cs) h = with_rises (all_in xs cs) c (all_rises xs cs h)

-- ---- changes

abbrev pub has_item : Item → List Change → Bool
has_item i xs = list_any (λ x. item_eq x.item i) xs

-- a list of changes without the item leaves the row; one with it leaves a row that doesn't depend on what was
pub untouched : (i : Item) (cs : List Change) (r : Option (List ℕ)) → has_item i cs ≡ false → changed_row i r cs ≡ r
untouched i [] r h = refl
untouched i (c ∷ cs) r h = go (item_eq c.item i) h (untouched i cs r)
  where
    go : (b : Bool) → (b || has_item i cs) ≡ false → (has_item i cs ≡ false → changed_row i r cs ≡ r) → elim b [ true ↦ changed_row i (row_after c.what) cs | false ↦ changed_row i r cs ] ≡ r
    go true e f = absurd (false≢true (sym e))
    go false e f = f e

pub touched : (i : Item) (cs : List Change) (r u : Option (List ℕ)) → has_item i cs ≡ true → changed_row i r cs ≡ changed_row i u cs
touched i [] r u h = absurd (false≢true h)
touched i (c ∷ cs) r u h = go (item_eq c.item i) h (touched i cs r u)
  where
    go : (b : Bool) → (b || has_item i cs) ≡ true → (has_item i cs ≡ true → changed_row i r cs ≡ changed_row i u cs)
        → ◌≡◌ {A = Option (List ℕ)} (elim b [ true ↦ changed_row i (row_after c.what) cs | false ↦ changed_row i r cs ]) (elim b [ true ↦ changed_row i (row_after c.what) cs | false ↦ changed_row i u cs ])
    go true e f = refl
    go false e f = f e

finds : (i : Item) (xs : List Change) → has_item i xs ≡ true → (x : Change) × In x xs × (item_eq x.item i ≡ true)
finds i [] h = absurd (false≢true h)
finds i (x ∷ xs) h = go (item_eq x.item i) refl h (finds i xs)
  where
    go : (b : Bool) → item_eq x.item i ≡ b → (b || has_item i xs) ≡ true → (has_item i xs ≡ true → (y : Change) × In y xs × (item_eq y.item i ≡ true)) → (y : Change) × In y (x ∷ xs) × (item_eq y.item i ≡ true)
    go true e k f = (x, inl refl, e)
    go false e k f = let r = f k in (r.0, inr r.1, r.2)

-- of two lists that are apart, the other one hasn't the item
pub apart_item : (i : Item) (xs ys : List Change) → AreApart xs ys → has_item i xs ≡ true → has_item i ys ≡ false
apart_item i xs ys a h = go (has_item i ys) refl
  where
    go : (b : Bool) → has_item i ys ≡ b → b ≡ false
    go false e = refl
    go true e =
        let x = finds i xs h in
        let y = finds i ys e in
        let p : (x.0).item ≡ i = item_eq_same (x.0).item i x.2 in
        let q : (y.0).item ≡ i = item_eq_same (y.0).item i y.2 in
        absurd (false≢true (sym (a x.0 y.0 x.1 y.1) ∙ ap (λ z. item_eq z (y.0).item) p ∙ ap (item_eq i) q ∙ item_eq_itself i))

-- ---- one transaction of a list

pub skips : (i : Item) (e : Gtids) (r : Option (List ℕ)) (c : Cert) (cs : List Cert) → has e c.gtid ≡ false → row_by i e r (c ∷ cs) ≡ row_by i e r cs
skips i e r c cs n = ap (λ b. elim b [ true ↦ row_by i e (changed_row i r c.txn.changes) cs | false ↦ row_by i e r cs ]) n

pub counts_one : (i : Item) (e : Gtids) (r : Option (List ℕ)) (c : Cert) (cs : List Cert) → has e c.gtid ≡ true → row_by i e r (c ∷ cs) ≡ row_by i e (changed_row i r c.txn.changes) cs
counts_one i e r c cs n = ap (λ b. elim b [ true ↦ row_by i e (changed_row i r c.txn.changes) cs | false ↦ row_by i e r cs ]) n

-- one that the set lacks is put in
pub unseen_with : (i : Item) (e : Gtids) (r : Option (List ℕ)) (xs : List Cert) (c : Cert) → has e c.gtid ≡ false → row_by i e r (with_cert xs c) ≡ row_by i e r xs
unseen_with i e r [] c n = skips i e r c [] n
unseen_with i e r (x ∷ xs) c n = go (nat_lt c.place x.place) (λ u. unseen_with i e u xs c n)
  where
    go : (b : Bool) → ((u : Option (List ℕ)) → row_by i e u (with_cert xs c) ≡ row_by i e u xs) → row_by i e r (elim b [ true ↦ c ∷ x ∷ xs | false ↦ x ∷ with_cert xs c ]) ≡ row_by i e r (x ∷ xs)
    go true f = skips i e r c (x ∷ xs) n
    go false f = step (has e x.gtid)
      where
        step : (b : Bool) → ◌≡◌ {A = Option (List ℕ)} (elim b [ true ↦ row_by i e (changed_row i r x.txn.changes) (with_cert xs c) | false ↦ row_by i e r (with_cert xs c) ])
            (elim b [ true ↦ row_by i e (changed_row i r x.txn.changes) xs | false ↦ row_by i e r xs ])
        step true = f (changed_row i r x.txn.changes)
        step false = f r

pub unseen_all : (i : Item) (e : Gtids) (r : Option (List ℕ)) (xs cs : List Cert) → ((c : Cert) → In c cs → has e c.gtid ≡ false) → row_by i e r (all_in xs cs) ≡ row_by i e r xs
unseen_all i e r xs [] h = refl
unseen_all i e r xs (c ∷ cs) h = unseen_with i e r (all_in xs cs) c (h c (inl refl)) ∙ unseen_all i e r xs cs (λ d m. h d (inr m))

-- ---- two sets

-- they have the same, but for transactions that leave the row as it is
pub same_by : (i : Item) (e f : Gtids) (r : Option (List ℕ)) (ds : List Cert) → ((d : Cert) → In d ds → (has e d.gtid ≡ has f d.gtid) ⊎ ((v : Option (List ℕ)) → changed_row i v d.txn.changes ≡ v)) → row_by i e r ds ≡ row_by i f r ds
same_by i e f r [] h = refl
same_by i e f r (d ∷ ds) h = step (has e d.gtid) (has f d.gtid) (h d (inl refl)) (λ v. same_by i e f v ds (λ y m. h y (inr m)))
  where
    step : (a b : Bool) → (a ≡ b) ⊎ ((v : Option (List ℕ)) → changed_row i v d.txn.changes ≡ v) → ((v : Option (List ℕ)) → row_by i e v ds ≡ row_by i f v ds)
        → ◌≡◌ {A = Option (List ℕ)} (elim a [ true ↦ row_by i e (changed_row i r d.txn.changes) ds | false ↦ row_by i e r ds ]) (elim b [ true ↦ row_by i f (changed_row i r d.txn.changes) ds | false ↦ row_by i f r ds ])
    step true true x k = k (changed_row i r d.txn.changes)
    step false false x k = k r
    step true false (inl x) k = absurd (false≢true (sym x))
    step true false (inr z) k = ap (λ v. row_by i e v ds) (z r) ∙ k r
    step false true (inl x) k = absurd (false≢true x)
    step false true (inr z) k = k r ∙ ap (λ v. row_by i f v ds) (sym (z r))

-- ---- the last one that changes the row

-- each that counts leaves this row as it is
stays : (i : Item) (e : Gtids) (k : Option (List ℕ)) (ds : List Cert) → ((d : Cert) → In d ds → has e d.gtid ≡ true → changed_row i k d.txn.changes ≡ k) → row_by i e k ds ≡ k
stays i e k [] h = refl
stays i e k (d ∷ ds) h = step (has e d.gtid) refl (stays i e k ds (λ y m. h y (inr m)))
  where
    step : (b : Bool) → has e d.gtid ≡ b → row_by i e k ds ≡ k → elim b [ true ↦ row_by i e (changed_row i k d.txn.changes) ds | false ↦ row_by i e k ds ] ≡ k
    step true t r = ap (λ v. row_by i e v ds) (h d (inl refl) t) ∙ r
    step false t r = r

-- it leaves this row, and those of no lower place leave that as it is
pub ends : (i : Item) (e : Gtids) (k r : Option (List ℕ)) (c : Cert) (ds : List Cert) → Rises ds → In c ds → has e c.gtid ≡ true → ((v : Option (List ℕ)) → changed_row i v c.txn.changes ≡ k)
    → ((d : Cert) → In d ds → has e d.gtid ≡ true → c.place ≤ d.place → changed_row i k d.txn.changes ≡ k) → row_by i e r ds ≡ k
ends i e k r c [] h m t z a = absurd m
ends i e k r c (x ∷ xs) h (inl q) t z a =
    counts_one i e r x xs (ap (λ (y : Cert). has e y.gtid) q ∙ t)
    ∙ (ap (λ v. row_by i e v xs) (ap (λ (y : Cert). changed_row i r y.txn.changes) q ∙ z r)
    ∙ stays i e k xs (λ d m s. a d (inr m) s (subst (λ (y : Cert). y.place ≤ d.place) q (h.0 d m))))
ends i e k r c (x ∷ xs) h (inr m) t z a = step (has e x.gtid) (λ v. ends i e k v c xs h.1 m t z (λ d n. a d (inr n)))
  where
    step : (b : Bool) → ((v : Option (List ℕ)) → row_by i e v xs ≡ k) → elim b [ true ↦ row_by i e (changed_row i r x.txn.changes) xs | false ↦ row_by i e r xs ] ≡ k
    step true f = f (changed_row i r x.txn.changes)
    step false f = f r
