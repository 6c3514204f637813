-- The items that a certifier keeps, as a lookup of last writers: what each of its acts does to the lookup.
use Rattle.std.proofs.Common.{◌≡◌, ◌⊎◌, inl, inr, ℕ, Bool, true, false, cond, not, ◌||◌, List, [], ◌∷◌, refl, ◌∙◌, sym, ap, subst}
use Rattle.std.specs.Prelude.{Option, Some, None, filter}
use Rattle.std.proofs.lemmas.Bool.{false≢true}
use Rattle.gr_ids.specs.declared.names.Gtid.{Gtid}
use Rattle.gtid_sets.specs.Sets.{Gtids, has}
use Rattle.key_items.specs.declared.item.Item.{Item}
use Rattle.key_items.specs.Items.{item_eq, item_lt, has_item}
use Rattle.key_items.proofs.Order.{Stands, Below, Same, Above, stands, item_lt_trans, item_eq_same}
use Rattle.group_rules.specs.Names.{KeptItem}
use Rattle.group_rules.specs.Certifier.{with_kept, written_by}
use Rattle.group_laws.specs.Lists.{Mem}
use Rattle.group_lives.specs.Given.{Writer, writer_of, AllAbove, Sorted}

pub lt_not_eq : (a b : Item) → item_lt a b ≡ true → (item_eq a b ≡ false) × (item_eq b a ≡ false)
lt_not_eq a b h = go (stands a b)
  where
    go : Stands a b → (item_eq a b ≡ false) × (item_eq b a ≡ false)
    go (Below p q r s) = (q, s)
    go (Same p q r s) = absurd (false≢true (sym p ∙ h))
    go (Above p q r s) = absurd (false≢true (sym p ∙ h))

-- an item below all of these has no writer
none_below : (i : Item) (ks : List KeptItem) → AllAbove i ks → writer_of ks i ≡ None
none_below i [] h = refl
none_below i (k ∷ ks) h =
    let e = (lt_not_eq i k.item (h k (inl refl))).1 in
    ap (λ (z : Bool). cond z (Some (k.place, k.gtid)) (writer_of ks i)) e ∙ none_below i ks (λ x m. h x (inr m))

-- ---- an item more

abbrev noted : KeptItem → Item → Option Writer → Option Writer
noted k i was = cond (item_eq k.item i) (Some (k.place, k.gtid)) was

apart : (a b i : Item) → item_eq a b ≡ false → item_eq b i ≡ true → item_eq a i ≡ false
apart a b i h k = subst (λ (z : Item). item_eq a z ≡ false) (item_eq_same b i k) h

writer_with : (xs : List KeptItem) (k : KeptItem) (i : Item) → writer_of (with_kept xs k) i ≡ noted k i (writer_of xs i)
writer_with [] k i = refl
writer_with (x ∷ xs) k i = go (item_lt k.item x.item) (item_eq k.item x.item) (item_eq k.item i) (item_eq x.item i) refl refl refl refl (writer_with xs k i)
  where
    go : (l e a b : Bool) → item_lt k.item x.item ≡ l → item_eq k.item x.item ≡ e → item_eq k.item i ≡ a → item_eq x.item i ≡ b
        → writer_of (with_kept xs k) i ≡ noted k i (writer_of xs i) → writer_of (with_kept (x ∷ xs) k) i ≡ noted k i (writer_of (x ∷ xs) i)
    go true e a b p q r s t = rw (p, with_kept) refl
    go false true true b p q r s t = rw (p, q, r, with_kept) refl
    go false true false true p q r s t = absurd (false≢true (sym r ∙ ap (λ (z : Item). item_eq z i) (item_eq_same k.item x.item q) ∙ s))
    go false true false false p q r s t = rw (p, q, r, s, with_kept) refl
    go false false true true p q r s t = absurd (false≢true (sym (apart k.item x.item i q s) ∙ r))
    go false false true false p q r s t = rw (p, q, r, s, with_kept) (t ∙ ap (λ (z : Bool). cond z (Some (k.place, k.gtid)) (writer_of xs i)) r)
    go false false false true p q r s t = rw (p, q, r, s, with_kept) refl
    go false false false false p q r s t = rw (p, q, r, s, with_kept) (t ∙ ap (λ (z : Bool). cond z (Some (k.place, k.gtid)) (writer_of xs i)) r)

mem_with : (xs : List KeptItem) (k y : KeptItem) → Mem y (with_kept xs k) → (k ≡ y) ⊎ Mem y xs
mem_with [] k y (inl e) = inl e
mem_with [] k y (inr h) = absurd h
mem_with (x ∷ xs) k y h = go (item_lt k.item x.item) (item_eq k.item x.item) refl refl h (mem_with xs k y)
  where
    first : (zs : List KeptItem) → Mem y (k ∷ zs) → (Mem y zs → Mem y (x ∷ xs)) → (k ≡ y) ⊎ Mem y (x ∷ xs)
    first zs (inl e) f = inl e
    first zs (inr m) f = inr (f m)

    later : Mem y (x ∷ with_kept xs k) → (Mem y (with_kept xs k) → (k ≡ y) ⊎ Mem y xs) → (k ≡ y) ⊎ Mem y (x ∷ xs)
    later (inl e) t = inr (inl e)
    later (inr m) t = elim (t m) [ inl z ↦ inl z | inr z ↦ inr (inr z) ]

    go : (l e : Bool) → item_lt k.item x.item ≡ l → item_eq k.item x.item ≡ e → Mem y (with_kept (x ∷ xs) k)
        → (Mem y (with_kept xs k) → (k ≡ y) ⊎ Mem y xs) → (k ≡ y) ⊎ Mem y (x ∷ xs)
    go true e p q m t = let n : Mem y (k ∷ x ∷ xs) = rw (p, with_kept) at m in first (x ∷ xs) n (λ z. z)
    go false true p q m t = let n : Mem y (k ∷ xs) = rw (p, q, with_kept) at m in first xs n inr
    go false false p q m t = let n : Mem y (x ∷ with_kept xs k) = rw (p, q, with_kept) at m in later n t

above_first : (k x : KeptItem) (xs : List KeptItem) → item_lt k.item x.item ≡ true → AllAbove x.item xs → AllAbove k.item (x ∷ xs)
above_first k x xs l h y (inl e) = ap (λ (z : KeptItem). item_lt k.item z.item) (sym e) ∙ l
above_first k x xs l h y (inr m) = item_lt_trans k.item x.item y.item l (h y m)

above_with : (x k : KeptItem) (xs : List KeptItem) → item_lt x.item k.item ≡ true → AllAbove x.item xs → AllAbove x.item (with_kept xs k)
above_with x k xs l h y m = elim (mem_with xs k y m) [ inl e ↦ ap (λ (z : KeptItem). item_lt x.item z.item) (sym e) ∙ l | inr z ↦ h y z ]

pub sorted_with : (xs : List KeptItem) (k : KeptItem) → Sorted xs → Sorted (with_kept xs k)
sorted_with [] k h = ((λ y m. absurd m), tt)
sorted_with (x ∷ xs) k h = go (stands k.item x.item) (sorted_with xs k h.1)
  where
    go : Stands k.item x.item → Sorted (with_kept xs k) → Sorted (with_kept (x ∷ xs) k)
    go (Below p q r s) t = rw (p, with_kept) (above_first k x xs p h.0, h)
    go (Same p q r s) t = rw (p, q, with_kept) ((λ y m. ap (λ (z : Item). item_lt z y.item) (item_eq_same k.item x.item q) ∙ h.0 y m), h.1)
    go (Above p q r s) t = rw (p, q, with_kept) (above_with x k xs r h.0, t)

-- ---- a transaction's items

pub writer_written : (p : ℕ) (g : Gtid) (is : List Item) (ks : List KeptItem) (i : Item) → writer_of (written_by p g is ks) i ≡ cond (has_item is i) (Some (p, g)) (writer_of ks i)
writer_written p g [] ks i = refl
writer_written p g (x ∷ xs) ks i =
    writer_written p g xs (with_kept ks (record { item = x; gtid = g; place = p })) i
    ∙ ap (cond (has_item xs i) (Some (p, g))) (writer_with ks (record { item = x; gtid = g; place = p }) i)
    ∙ go (stands x i) (has_item xs i)
  where
    go : Stands x i → (b : Bool) → cond b (Some (p, g)) (cond (item_eq x i) (Some (p, g)) (writer_of ks i)) ≡ cond (item_eq i x || b) (Some (p, g)) (writer_of ks i)
    go (Below a c d e) true = rw e refl
    go (Below a c d e) false = rw (c, e) refl
    go (Same a c d e) true = rw e refl
    go (Same a c d e) false = rw (c, e) refl
    go (Above a c d e) true = rw e refl
    go (Above a c d e) false = rw (c, e) refl

pub sorted_written : (p : ℕ) (g : Gtid) (is : List Item) (ks : List KeptItem) → Sorted ks → Sorted (written_by p g is ks)
sorted_written p g [] ks h = h
sorted_written p g (x ∷ xs) ks h = sorted_written p g xs (with_kept ks (record { item = x; gtid = g; place = p })) (sorted_with ks (record { item = x; gtid = g; place = p }) h)

-- ---- items forgotten

-- a writer that the set has is kept no more
abbrev pub unless_in : Gtids → Option Writer → Option Writer
unless_in s None = None
unless_in s (Some w) = cond (has s w.1) None (Some w)

abbrev pub stays : Gtids → KeptItem → Bool
stays s k = not (has s k.gtid)

mem_filter : (s : Gtids) (ks : List KeptItem) (y : KeptItem) → Mem y (filter (stays s) ks) → Mem y ks
mem_filter s [] y h = h
mem_filter s (k ∷ ks) y h = go (stays s k) h (mem_filter s ks y)
  where
    go : (b : Bool) → Mem y (cond b (k ∷ filter (stays s) ks) (filter (stays s) ks)) → (Mem y (filter (stays s) ks) → Mem y ks) → Mem y (k ∷ ks)
    go true (inl e) t = inl e
    go true (inr m) t = inr (t m)
    go false m t = inr (t m)

pub sorted_filter : (s : Gtids) (ks : List KeptItem) → Sorted ks → Sorted (filter (stays s) ks)
sorted_filter s [] h = tt
sorted_filter s (k ∷ ks) h = go (stays s k) (sorted_filter s ks h.1)
  where
    go : (b : Bool) → Sorted (filter (stays s) ks) → Sorted (cond b (k ∷ filter (stays s) ks) (filter (stays s) ks))
    go true t = ((λ y m. h.0 y (mem_filter s ks y m)), t)
    go false t = t

pub writer_filter : (s : Gtids) (ks : List KeptItem) (i : Item) → Sorted ks → writer_of (filter (stays s) ks) i ≡ unless_in s (writer_of ks i)
writer_filter s [] i h = refl
writer_filter s (k ∷ ks) i h = go (has s k.gtid) (item_eq k.item i) refl refl (writer_filter s ks i h.1)
  where
    go : (a b : Bool) → has s k.gtid ≡ a → item_eq k.item i ≡ b → writer_of (filter (stays s) ks) i ≡ unless_in s (writer_of ks i)
        → writer_of (filter (stays s) (k ∷ ks)) i ≡ unless_in s (writer_of (k ∷ ks) i)
    go true true p q t = rw (p, q, p) (t ∙ ap (unless_in s) (ap (writer_of ks) (sym (item_eq_same k.item i q)) ∙ none_below k.item ks h.0))
    go true false p q t = rw (p, q) t
    go false true p q t = rw (p, q, p) refl
    go false false p q t = rw (p, q) t
