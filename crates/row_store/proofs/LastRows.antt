-- Two lists of the same transactions, by ascending place, leave the same rows.
use Rattle.std.proofs.Common.{◌≡◌, ◌⊎◌, inl, inr, ℕ, ◌≤◌, Bool, true, false, ◌&&◌, Option, None, List, [], ◌∷◌, refl, sym, ap, subst, ◌∙◌, arith}
use Rattle.std.proofs.lemmas.Bool.{false≢true, and_parts, and_from}
use Rattle.key_items.specs.declared.item.Item.{Item}
use Rattle.gtid_sets.specs.Sets.{Gtids, has}
use Rattle.node_rules.specs.Lists.{In}
use Rattle.group_rules.specs.Events.{Cert}
use Rattle.group_rules.specs.Rows.{changed_row, row_by}
use Rattle.row_store.proofs.Known.{Rises, has_item, touched, untouched}

-- the transaction counts for the row
abbrev pub counts : Item → Gtids → Cert → Bool
counts i e c = has e c.gtid && has_item i c.txn.changes

-- the row is what the last one that counts leaves
data LastOf (i : Item) (e : Gtids) (xs : List Cert) (r : Option (List ℕ)) : Type 0 where
  NoneOf : ((c : Cert) → In c xs → counts i e c ≡ false) → row_by i e r xs ≡ r → LastOf i e xs r
  IsLast : (c : Cert) → In c xs → counts i e c ≡ true → ((d : Cert) → In d xs → counts i e d ≡ true → d.place ≤ c.place) → row_by i e r xs ≡ changed_row i None c.txn.changes → LastOf i e xs r

last_of : (i : Item) (e : Gtids) (xs : List Cert) (r : Option (List ℕ)) → Rises xs → LastOf i e xs r
last_of i e [] r h = NoneOf (λ c m. absurd m) refl
last_of i e (x ∷ xs) r h = go (has e x.gtid) (has_item i x.txn.changes) refl refl (last_of i e xs (changed_row i r x.txn.changes) h.1) (last_of i e xs r h.1)
  where
    row_is : (b : Bool) → has e x.gtid ≡ b → row_by i e r (x ∷ xs) ≡ elim b [ true ↦ row_by i e (changed_row i r x.txn.changes) xs | false ↦ row_by i e r xs ]
    row_is b q = ap (λ b. elim b [ true ↦ row_by i e (changed_row i r x.txn.changes) xs | false ↦ row_by i e r xs ]) q

    later : (u : Option (List ℕ)) → counts i e x ≡ false → row_by i e r (x ∷ xs) ≡ row_by i e u xs → u ≡ r → LastOf i e xs u → LastOf i e (x ∷ xs) r
    later u q w z (NoneOf f k) = NoneOf (λ c m. none c m) (w ∙ k ∙ z)
      where
        none : (c : Cert) → (x ≡ c) ⊎ In c xs → counts i e c ≡ false
        none c (inl y) = ap (counts i e) (sym y) ∙ q
        none c (inr m) = f c m
    later u q w z (IsLast c m n f k) = IsLast c (inr m) n (λ d y. upper d y) (w ∙ k)
      where
        upper : (d : Cert) → (x ≡ d) ⊎ In d xs → counts i e d ≡ true → d.place ≤ c.place
        upper d (inl y) t = absurd (false≢true (sym q ∙ ap (counts i e) y ∙ t))
        upper d (inr m) t = f d m t

    here : counts i e x ≡ true → row_by i e r (x ∷ xs) ≡ row_by i e (changed_row i r x.txn.changes) xs → has_item i x.txn.changes ≡ true → LastOf i e xs (changed_row i r x.txn.changes) → LastOf i e (x ∷ xs) r
    here q w a (NoneOf f k) = IsLast x (inl refl) q (λ d y. only d y) (w ∙ k ∙ touched i x.txn.changes r None a)
      where
        only : (d : Cert) → (x ≡ d) ⊎ In d xs → counts i e d ≡ true → d.place ≤ x.place
        only d (inl y) t = subst (λ (z : Cert). z.place ≤ x.place) y (omega arith)
        only d (inr m) t = absurd (false≢true (sym (f d m) ∙ t))
    here q w a (IsLast c m n f k) = IsLast c (inr m) n (λ d y. upper d y) (w ∙ k)
      where
        upper : (d : Cert) → (x ≡ d) ⊎ In d xs → counts i e d ≡ true → d.place ≤ c.place
        upper d (inl y) t = subst (λ (u : Cert). u.place ≤ c.place) y (h.0 c m)
        upper d (inr m) t = f d m t

    go : (b a : Bool) → has e x.gtid ≡ b → has_item i x.txn.changes ≡ a → LastOf i e xs (changed_row i r x.txn.changes) → LastOf i e xs r → LastOf i e (x ∷ xs) r
    go true true p q f g = here (and_from (has e x.gtid) (has_item i x.txn.changes) p q) (row_is true p) q f
    go true false p q f g = later (changed_row i r x.txn.changes) (λ k. p k && q k) (row_is true p) (untouched i x.txn.changes r q) f
    go false a p q f g = later r (ap (λ b. b && has_item i x.txn.changes) p) (row_is false p) refl g

-- each that the set has stands in both, and no two have one place
pub same_rows : (i : Item) (e : Gtids) (xs ys : List Cert) → Rises xs → Rises ys → ((c : Cert) → In c xs → has e c.gtid ≡ true → In c ys) → ((c : Cert) → In c ys → has e c.gtid ≡ true → In c xs)
    → ((c d : Cert) → In c xs → In d xs → c.place ≡ d.place → c ≡ d) → row_by i e None xs ≡ row_by i e None ys
same_rows i e xs ys h k to from one = go (last_of i e xs None h) (last_of i e ys None k)
  where
    seen : (c : Cert) → counts i e c ≡ true → has e c.gtid ≡ true
    seen c n = (and_parts (has e c.gtid) (has_item i c.txn.changes) n).0

    go : LastOf i e xs None → LastOf i e ys None → row_by i e None xs ≡ row_by i e None ys
    go (NoneOf f p) (NoneOf g q) = p ∙ sym q
    go (NoneOf f p) (IsLast c m n g q) = absurd (false≢true (sym (f c (from c m (seen c n))) ∙ n))
    go (IsLast c m n f p) (NoneOf g q) = absurd (false≢true (sym (g c (to c m (seen c n))) ∙ n))
    go (IsLast c m n f p) (IsLast d l o g q) =
        let u = g c (to c m (seen c n)) n in
        let v = f d (from d l (seen d o)) o in
        p ∙ (ap (λ (y : Cert). changed_row i None y.txn.changes) (one c d m (from d l (seen d o)) (omega (arith, u, v))) ∙ sym q)
