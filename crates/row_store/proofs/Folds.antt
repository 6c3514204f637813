-- The changes of a transaction, one after another.
use Rattle.std.proofs.Common.{◌≡◌, ℕ, Bool, true, false, ◌&&◌, Option, Some, None, List, [], ◌∷◌, ◌++◌, length, not, Bor, refl, sym, ap, ◌∙◌, arith}
use Rattle.std.specs.Prelude.{is_some, option_copied}
use Rattle.std.specs.List.{list_all}
use Rattle.std.proofs.lemmas.Bool.{true≢false}
use Rattle.gtid_sets.specs.Sets.{Gtids, has}
use Rattle.gr_ids.specs.declared.names.Gtid.{Gtid}
use Rattle.key_items.specs.declared.item.Item.{Item}
use Rattle.key_items.specs.declared.change.Change.{Change}
use Rattle.key_items.specs.Items.{item_eq}
use Rattle.group_rules.specs.Events.{Cert}
use Rattle.group_rules.specs.Rows.{row_after, changed_row, row_by, fits}
use Rattle.key_items.specs.declared.change.ChangeKind.{ChangeKind}
use Rattle.key_items.specs.declared.change.ChangeKind.TheVariants.{Insert as Inserts, Update as Updates, Delete as Deletes}
use Rattle.row_store.specs.declared.fault.RowFault.TheVariants.{DuplicateKey, NoRow}
use Rattle.row_store.specs.Chains.{Chain, row_with, fault_of, IsFoldOf, IsApplied}
use Rattle.row_store.specs.Presence.{is_there}

-- one change, and then the others
pub changed_next : (i : Item) (r : Option (List ℕ)) (x : Change) (xs : List Change) → changed_row i (changed_row i r (x ∷ [])) xs ≡ changed_row i r (x ∷ xs)
changed_next i r x xs = go (item_eq x.item i) refl
  where
    go : (b : Bool) → item_eq x.item i ≡ b → changed_row i (changed_row i r (x ∷ [])) xs ≡ changed_row i r (x ∷ xs)
    go true f = rw (f, changed_row) refl
    go false f = rw (f, changed_row) refl

pub row_next : (g : Gtid) (e : Gtids) (i : Item) (r : Option (List ℕ)) (x : Change) (xs : List Change) → row_with g xs e i (row_with g (x ∷ []) e i r) ≡ row_with g (x ∷ xs) e i r
row_next g e i r x xs = go (has e g) refl
  where
    go : (b : Bool) → has e g ≡ b → row_with g xs e i (row_with g (x ∷ []) e i r) ≡ row_with g (x ∷ xs) e i r
    go true f = rw f (changed_next i r x xs)
    go false f = rw f refl

pub row_with_none : (g : Gtid) (e : Gtids) (i : Item) (r : Option (List ℕ)) → row_with g [] e i r ≡ r
row_with_none g e i r = go (has e g) refl
  where
    go : (b : Bool) → has e g ≡ b → row_with g [] e i r ≡ r
    go true f = rw f refl
    go false f = rw f refl

-- whether there is a row doesn't depend on its value
pub there_is : (i : Item) (r : Option (List ℕ)) (xs : List Change) → is_some (changed_row i r xs) ≡ is_there i (is_some r) xs
there_is i r [] = refl
there_is i r (x ∷ xs) = go (item_eq x.item i) refl (there_is i (row_after x.what) xs) (there_is i r xs)
  where
    go : (b : Bool) → item_eq x.item i ≡ b → is_some (changed_row i (row_after x.what) xs) ≡ is_there i (is_some (row_after x.what)) xs → is_some (changed_row i r xs) ≡ is_there i (is_some r) xs
        → is_some (changed_row i r (x ∷ xs)) ≡ is_there i (is_some r) (x ∷ xs)
    go true f p q = rw (f, changed_row) p
    go false f p q = rw (f, changed_row) q

pub all_more : {X : Type 0} (p q : X → Bool) (xs : List X) → ((x : X) → p x ≡ true → q x ≡ true) → list_all p xs ≡ true → list_all q xs ≡ true
all_more p q [] h a = refl
all_more {X} p q (x ∷ xs) h a = go (p x) refl (all_more p q xs h)
  where
    go : (b : Bool) → p x ≡ b → (list_all p xs ≡ true → list_all q xs ≡ true) → list_all q (x ∷ xs) ≡ true
    go true f r = rw (h x f) (r (rw f at a))
    go false f r = absurd (let z : false ≡ true = rw f at a in true≢false (sym z))

pub all_rest : {X : Type 0} (p : X → Bool) (x : X) (xs : List X) → list_all p (x ∷ xs) ≡ true → (p x ≡ true) × (list_all p xs ≡ true)
all_rest p x xs a = parts (p x) (list_all p xs) a
  where
    parts : (s t : Bool) → (s && t) ≡ true → (s ≡ true) × (t ≡ true)
    parts true t e = (refl, e)
    parts false t e = absurd (true≢false (sym e))

-- ---- whether a change fits

pub fits_taken : (k : ChangeKind) (r : Option (List ℕ)) (v : List ℕ) → k ≡ Inserts v → is_some r ≡ true → (fits k r ≡ false) × (DuplicateKey ≡ fault_of k)
fits_taken k r v e h = rw e (ap not h, refl)

pub fits_free : (k : ChangeKind) (r : Option (List ℕ)) (v : List ℕ) → k ≡ Inserts v → is_some r ≡ false → fits k r ≡ true
fits_free k r v e h = rw e (ap not h)

pub fits_there : (k : ChangeKind) (r : Option (List ℕ)) → ((v : List ℕ) → k ≡ Inserts v → ⊥) → is_some r ≡ true → fits k r ≡ true
fits_there (Inserts v) r n h = absurd (n v refl)
fits_there (Updates v) r n h = h
fits_there Deletes r n h = h

pub fits_gone : (k : ChangeKind) (r : Option (List ℕ)) → ((v : List ℕ) → k ≡ Inserts v → ⊥) → is_some r ≡ false → (fits k r ≡ false) × (NoRow ≡ fault_of k)
fits_gone (Inserts v) r n h = absurd (n v refl)
fits_gone (Updates v) r n h = (h, refl)
fits_gone Deletes r n h = (h, refl)

pub copied_some : {X : Type 0} (o : Option (Bor X)) → is_some (option_copied o) ≡ is_some o
copied_some None = refl
copied_some (Some b) = refl

pub nil_of : {X : Type 0} (xs : List X) → length xs ≡ 0 → xs ≡ []
nil_of [] e = refl
nil_of (x ∷ xs) e = absurd (omega (arith, e))

-- ---- the rows are the fold

row_by_more : (i : Item) (e : Gtids) (r : Option (List ℕ)) (ts : List Cert) (t : Cert) → row_by i e r (ts ++ t ∷ []) ≡ row_with t.gtid t.txn.changes e i (row_by i e r ts)
row_by_more i e r [] t = go (has e t.gtid) refl
  where
    go : (b : Bool) → has e t.gtid ≡ b → row_by i e r (t ∷ []) ≡ row_with t.gtid t.txn.changes e i r
    go true f = rw (f, row_by) refl
    go false f = rw (f, row_by) refl
row_by_more i e r (u ∷ ts) t = go (has e u.gtid) refl (row_by_more i e (changed_row i r u.txn.changes) ts t) (row_by_more i e r ts t)
  where
    go : (b : Bool) → has e u.gtid ≡ b → row_by i e (changed_row i r u.txn.changes) (ts ++ t ∷ []) ≡ row_with t.gtid t.txn.changes e i (row_by i e (changed_row i r u.txn.changes) ts)
        → row_by i e r (ts ++ t ∷ []) ≡ row_with t.gtid t.txn.changes e i (row_by i e r ts) → row_by i e r ((u ∷ ts) ++ t ∷ []) ≡ row_with t.gtid t.txn.changes e i (row_by i e r (u ∷ ts))
    go true f p q = rw (f, row_by) p
    go false f p q = rw (f, row_by) q

pub fold_more : (old new : List Chain) (ts : List Cert) (t : Cert) → IsFoldOf old ts → IsApplied old new t.gtid t.txn.changes → IsFoldOf new (ts ++ t ∷ [])
fold_more old new ts t f a i e = a i e ∙ (ap (row_with t.gtid t.txn.changes e i) (f i e) ∙ sym (row_by_more i e None ts t))
