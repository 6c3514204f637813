-- Certified transactions by ascending place, and the rows that they leave.
use Rattle.std.proofs.Common.{◌≡◌, ◌⊎◌, inl, inr, ℕ, suc, ◌≤◌, ◌<◌, Bool, true, false, ◌&&◌, ◌||◌, Option, None, List, [], ◌∷◌, refl, sym, ap, subst, ◌∙◌, arith}
use Rattle.std.specs.Prelude.{nat_lt}
use Rattle.std.proofs.lemmas.Bool.{false≢true, and_parts, and_from, leb-true, leb-false}
use Rattle.key_items.specs.declared.item.Item.{Item}
use Rattle.key_items.specs.declared.change.Change.{Change}
use Rattle.key_items.specs.Items.{item_eq}
use Rattle.gtid_sets.specs.Sets.{Gtids, has}
use Rattle.txn_forms.specs.declared.body.Txn.{Txn}
use Rattle.node_rules.specs.Lists.{In}
use Rattle.group_rules.specs.Events.{Setup, Cert}
use Rattle.group_rules.specs.Rows.{row_after, changed_row, row_by, with_cert, all_in}
use Rattle.group_laws.specs.Lists.{Mem}
use Rattle.group_laws.specs.Entries as law
use Rattle.group_laws.proofs.Certs.{same_place}
use Rattle.group_lawful.specs.Knows.{Alike}
use Rattle.group_lawful.proofs.Opens.{any_item}
use Rattle.group_lawful.proofs.Lawfuls.{Ascends}

-- ---- one more

pub in_with : (xs : List Cert) (c y : Cert) → In y (with_cert xs c) → (c ≡ y) ⊎ In y xs
in_with [] c y h = elim h [ inl e ↦ inl e | inr k ↦ absurd k ]
in_with (x ∷ xs) c y h = go (nat_lt c.place x.place) h (in_with xs c y)
  where
    go : (b : Bool) → In y (elim b [ true ↦ c ∷ x ∷ xs | false ↦ x ∷ with_cert xs c ]) → (In y (with_cert xs c) → (c ≡ y) ⊎ In y xs) → (c ≡ y) ⊎ In y (x ∷ xs)
    go true (inl e) f = inl e
    go true (inr k) f = inr k
    go false (inl e) f = inr (inl e)
    go false (inr k) f = elim (f k) [ inl e ↦ inl e | inr m ↦ inr (inr m) ]

pub with_new : (xs : List Cert) (c : Cert) → In c (with_cert xs c)
with_new [] c = inl refl
with_new (x ∷ xs) c = go (nat_lt c.place x.place) (with_new xs c)
  where
    go : (b : Bool) → In c (with_cert xs c) → In c (elim b [ true ↦ c ∷ x ∷ xs | false ↦ x ∷ with_cert xs c ])
    go true k = inl refl
    go false k = inr k

pub with_old : (xs : List Cert) (c y : Cert) → In y xs → In y (with_cert xs c)
with_old [] c y h = absurd h
with_old (x ∷ xs) c y h = go (nat_lt c.place x.place) h (with_old xs c y)
  where
    go : (b : Bool) → (x ≡ y) ⊎ In y xs → (In y xs → In y (with_cert xs c)) → In y (elim b [ true ↦ c ∷ x ∷ xs | false ↦ x ∷ with_cert xs c ])
    go true k f = inr k
    go false (inl e) f = inl e
    go false (inr k) f = inr (f k)

pub in_all : (xs cs : List Cert) (y : Cert) → In y (all_in xs cs) → In y xs ⊎ In y cs
in_all xs [] y h = inl h
in_all xs (c ∷ cs) y h = elim (in_with (all_in xs cs) c y h) [ inl e ↦ inr (inl e) | inr k ↦ elim (in_all xs cs y k) [ inl m ↦ inl m | inr m ↦ inr (inr m) ] ]

pub all_first : (xs cs : List Cert) (y : Cert) → In y xs → In y (all_in xs cs)
all_first xs [] y h = h
all_first xs (c ∷ cs) y h = with_old (all_in xs cs) c y (all_first xs cs y h)

pub all_second : (xs cs : List Cert) (y : Cert) → In y cs → In y (all_in xs cs)
all_second xs [] y h = absurd h
all_second xs (c ∷ cs) y (inl e) = subst (λ z. In z (all_in xs (c ∷ cs))) e (with_new (all_in xs cs) c)
all_second xs (c ∷ cs) y (inr h) = with_old (all_in xs cs) c y (all_second xs cs y h)

-- ---- in order

-- no place of these is that of c
abbrev pub Apart : Cert → List Cert → Type 0
Apart c xs = (x : Cert) → In x xs → x.place ≡ c.place → ⊥

abbrev pub NoTwice : List Cert → Type 0
NoTwice [] = Unit {0}
NoTwice (c ∷ cs) = Apart c cs × NoTwice cs

with_ascends : (xs : List Cert) (c : Cert) → Ascends xs → Apart c xs → Ascends (with_cert xs c)
with_ascends [] c h a = ((λ d m. absurd m), tt)
with_ascends (x ∷ xs) c h a = go (nat_lt c.place x.place) refl (with_ascends xs c h.1 (λ y m e. a y (inr m) e))
  where
    go : (b : Bool) → nat_lt c.place x.place ≡ b → Ascends (with_cert xs c) → Ascends (elim b [ true ↦ c ∷ x ∷ xs | false ↦ x ∷ with_cert xs c ])
    go true e k = ((λ d m. below d m), h)
      where
        below : (d : Cert) → (x ≡ d) ⊎ In d xs → c.place < d.place
        below d (inl q) = let z = leb-true (suc c.place) x.place e in subst (λ (y : Cert). c.place < y.place) q (omega (arith, z))
        below d (inr m) = let z = leb-true (suc c.place) x.place e in let y = h.0 d m in omega (arith, z, y)
    go false e k = ((λ d m. above d (in_with xs c d m)), k)
      where
        above : (d : Cert) → (c ≡ d) ⊎ In d xs → x.place < d.place
        above d (inl q) = let z = leb-false (suc c.place) x.place e in let n = a x (inl refl) in subst (λ (y : Cert). x.place < y.place) q (omega (arith, z, n))
        above d (inr m) = h.0 d m

pub all_ascends : (xs cs : List Cert) → Ascends xs → NoTwice cs → ((c : Cert) → In c cs → Apart c xs) → Ascends (all_in xs cs)
all_ascends xs [] h n a = h
all_ascends xs (c ∷ cs) h n a = with_ascends (all_in xs cs) c (all_ascends xs cs h n.1 (λ y m. a y (inr m))) (λ y m e. elim (in_all xs cs y m) [ inl k ↦ a c (inl refl) y k e | inr k ↦ n.0 y k e ])

-- ---- rows

-- a list of changes without the item leaves the row; one with it leaves a row that doesn't depend on what was
untouched : (i : Item) (cs : List Change) (r : Option (List ℕ)) → any_item cs i ≡ false → changed_row i r cs ≡ r
untouched i [] r h = refl
untouched i (c ∷ cs) r h = go (item_eq c.item i) h (untouched i cs r)
  where
    go : (b : Bool) → (b || any_item cs i) ≡ false → (any_item cs i ≡ false → changed_row i r cs ≡ r) → elim b [ true ↦ changed_row i (row_after c.what) cs | false ↦ changed_row i r cs ] ≡ r
    go true e f = absurd (false≢true (sym e))
    go false e f = f e

touched : (i : Item) (cs : List Change) (r u : Option (List ℕ)) → any_item cs i ≡ true → changed_row i r cs ≡ changed_row i u cs
touched i [] r u h = absurd (false≢true h)
touched i (c ∷ cs) r u h = go (item_eq c.item i) h (touched i cs r u)
  where
    go : (b : Bool) → (b || any_item cs i) ≡ true → (any_item cs i ≡ true → changed_row i r cs ≡ changed_row i u cs)
        → ◌≡◌ {A = Option (List ℕ)} (elim b [ true ↦ changed_row i (row_after c.what) cs | false ↦ changed_row i r cs ]) (elim b [ true ↦ changed_row i (row_after c.what) cs | false ↦ changed_row i u cs ])
    go true e f = refl
    go false e f = f e

-- the transaction counts for the row
abbrev pub counts : Item → Gtids → Cert → Bool
counts i e c = has e c.gtid && any_item c.txn.changes i

-- the row is what the last one that counts leaves
pub data LastOf (i : Item) (e : Gtids) (xs : List Cert) (r : Option (List ℕ)) : Type 0 where
  NoneOf : ((c : Cert) → In c xs → counts i e c ≡ false) → row_by i e r xs ≡ r → LastOf i e xs r
  IsLast : (c : Cert) → In c xs → counts i e c ≡ true → ((d : Cert) → In d xs → counts i e d ≡ true → d.place ≤ c.place) → row_by i e r xs ≡ changed_row i None c.txn.changes → LastOf i e xs r

pub last_of : (i : Item) (e : Gtids) (xs : List Cert) (r : Option (List ℕ)) → Ascends xs → LastOf i e xs r
last_of i e [] r h = NoneOf (λ c m. absurd m) refl
last_of i e (x ∷ xs) r h = go (has e x.gtid) (any_item x.txn.changes i) refl refl (last_of i e xs (changed_row i r x.txn.changes) h.1) (last_of i e xs r h.1)
  where
    row_is : (b : Bool) → has e x.gtid ≡ b → row_by i e r (x ∷ xs) ≡ elim b [ true ↦ row_by i e (changed_row i r x.txn.changes) xs | false ↦ row_by i e r xs ]
    row_is b q = ap (λ b. elim b [ true ↦ row_by i e (changed_row i r x.txn.changes) xs | false ↦ row_by i e r xs ]) q

    later : (u : Option (List ℕ)) → counts i e x ≡ false → row_by i e r (x ∷ xs) ≡ row_by i e u xs → u ≡ r → LastOf i e xs u → LastOf i e (x ∷ xs) r
    later u q w z (NoneOf f k) = NoneOf (λ c m. none c m) (w ∙ k ∙ z)
      where
        none : (c : Cert) → (x ≡ c) ⊎ In c xs → counts i e c ≡ false
        none c (inl y) = ap (counts i e) (sym y) ∙ q
        none c (inr m) = f c m
    later u q w z (IsLast c m n f k) = IsLast c (inr m) n (λ d y. upper d y) (w ∙ k)
      where
        upper : (d : Cert) → (x ≡ d) ⊎ In d xs → counts i e d ≡ true → d.place ≤ c.place
        upper d (inl y) t = absurd (false≢true (sym q ∙ ap (counts i e) y ∙ t))
        upper d (inr m) t = f d m t

    here : counts i e x ≡ true → row_by i e r (x ∷ xs) ≡ row_by i e (changed_row i r x.txn.changes) xs → any_item x.txn.changes i ≡ true → LastOf i e xs (changed_row i r x.txn.changes) → LastOf i e (x ∷ xs) r
    here q w a (NoneOf f k) = IsLast x (inl refl) q (λ d y. only d y) (w ∙ k ∙ touched i x.txn.changes r None a)
      where
        only : (d : Cert) → (x ≡ d) ⊎ In d xs → counts i e d ≡ true → d.place ≤ x.place
        only d (inl y) t = subst (λ (z : Cert). z.place ≤ x.place) y (omega arith)
        only d (inr m) t = absurd (false≢true (sym (f d m) ∙ t))
    here q w a (IsLast c m n f k) = IsLast c (inr m) n (λ d y. upper d y) (w ∙ k)
      where
        upper : (d : Cert) → (x ≡ d) ⊎ In d xs → counts i e d ≡ true → d.place ≤ c.place
        upper d (inl y) t = let z = h.0 c m in subst (λ (u : Cert). u.place ≤ c.place) y (omega (arith, z))
        upper d (inr m) t = f d m t

    go : (b a : Bool) → has e x.gtid ≡ b → any_item x.txn.changes i ≡ a → LastOf i e xs (changed_row i r x.txn.changes) → LastOf i e xs r → LastOf i e (x ∷ xs) r
    go true true p q f g = here (and_from (has e x.gtid) (any_item x.txn.changes i) p q) (row_is true p) q f
    go true false p q f g = later (changed_row i r x.txn.changes) (λ k. p k && q k) (row_is true p) (untouched i x.txn.changes r q) f
    go false a p q f g = later r (ap (λ b. b && any_item x.txn.changes i) p) (row_is false p) refl g

-- ---- two lists of the same transactions

-- these are the transactions of the list that are in the set
pub record StandFor (t : Setup) (m : List law.Placed) (e : Gtids) (xs : List Cert) : Type 0 where
  pub ascends : Ascends xs
  pub listed : (c : Cert) → In c xs → has e c.gtid ≡ true → (d : law.Cert) × Mem d (law.certified t m) × Alike c d
  pub all : (d : law.Cert) → Mem d (law.certified t m) → has e d.gtid ≡ true → (c : Cert) × In c xs × Alike c d

pub same_rows : (t : Setup) (m : List law.Placed) (e : Gtids) (xs ys : List Cert) (i : Item) → StandFor t m e xs → StandFor t m e ys → row_by i e None xs ≡ row_by i e None ys
same_rows t m e xs ys i x y = go (last_of i e xs None x.ascends) (last_of i e ys None y.ascends)
  where
    -- its counterpart
    other : (us vs : List Cert) → StandFor t m e us → StandFor t m e vs → (c : Cert) → In c us → counts i e c ≡ true → (d : Cert) × In d vs × (counts i e d ≡ true) × (d.place ≡ c.place)
    other us vs u v c k n =
        let p = and_parts (has e c.gtid) (any_item c.txn.changes i) n in
        let l = u.listed c k p.0 in
        let o = v.all l.0 l.1 (ap (has e) (sym l.2.gtid) ∙ p.0) in (
          o.0,
          o.1,
          and_from (has e (o.0).gtid) (any_item (o.0).txn.changes i) (ap (has e) (o.2.gtid ∙ sym l.2.gtid) ∙ p.0) (ap (λ (z : Txn). any_item z.changes i) (o.2.txn ∙ sym l.2.txn) ∙ p.1),
          o.2.place ∙ sym l.2.place,
        )

    -- of one place they are one transaction
    same : (c d : Cert) → In c xs → In d ys → counts i e c ≡ true → counts i e d ≡ true → c.place ≡ d.place → c.txn ≡ d.txn
    same c d k n p q z =
        let a = x.listed c k (and_parts (has e c.gtid) (any_item c.txn.changes i) p).0 in
        let b = y.listed d n (and_parts (has e d.gtid) (any_item d.txn.changes i) q).0 in
        let one : a.0 ≡ b.0 = same_place t m a.0 b.0 a.1 b.1 (sym a.2.place ∙ z ∙ b.2.place) in
        a.2.txn ∙ ap (λ (u : law.Cert). u.txn) one ∙ sym b.2.txn

    go : LastOf i e xs None → LastOf i e ys None → row_by i e None xs ≡ row_by i e None ys
    go (NoneOf f p) (NoneOf g q) = p ∙ sym q
    go (NoneOf f p) (IsLast c k n g q) = let o = other ys xs y x c k n in absurd (false≢true (sym (f o.0 o.1) ∙ o.2))
    go (IsLast c k n f p) (NoneOf g q) = let o = other xs ys x y c k n in absurd (false≢true (sym (g o.0 o.1) ∙ o.2))
    go (IsLast c k n f p) (IsLast d l o g q) =
        let a = other xs ys x y c k n in
        let b = other ys xs y x d l o in
        let u = g a.0 a.1 a.2 in
        let v = f b.0 b.1 b.2 in
        let s = a.3 in
        let r = b.3 in
        p ∙ ap (λ (z : Txn). changed_row i None z.changes) (same c d k l n o (omega (arith, u, v, s, r))) ∙ sym q
