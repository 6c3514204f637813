-- The two sides of the form of a change.
use Rattle.std.proofs.Common.{◌≡◌, ℕ, zero, suc, ◌+◌, ◌-◌, ◌<◌, ◌≤◌, ◌^◌, Bool, true, false, ◌||◌, List, [], ◌∷◌, ◌++◌, length, slice_get, Some, refl, sym, ap, subst, ◌∙◌, arith, append_assoc}
use Rattle.std.specs.Prelude.{slice_index_or}
use Rattle.byte_forms.specs.Numbers.{number}
use Rattle.byte_forms.specs.Reads.{Read, Got, Fault, Reader, go_on, ◌>>=◌, pure}
use Rattle.byte_forms.specs.Fields.{number_in, word}
use Rattle.byte_forms.specs.Lists.{counted, bytes_in}
use Rattle.byte_forms.specs.Forms.{IsRead, IsSpelled, IsForm}
use Rattle.byte_forms.proofs.FieldLemmas.{number_in-got}
use Rattle.byte_forms.proofs.FormLemmas.{number_form, counted_form, step, ends, glue, reads_on, reads_last}
use Rattle.key_items.specs.declared.item.Item.{Item}
use Rattle.key_items.specs.declared.change.Change.{Change}
use Rattle.key_items.specs.declared.change.ChangeKind.{ChangeKind}
use Rattle.key_items.specs.declared.change.ChangeKind.TheVariants.{Insert, Update, Delete}
use Rattle.key_items.specs.Items.{item_eq, has_item, ascend}
use Rattle.key_items.proofs.Order.{item_eq_same, item_eq_itself}
use Rattle.txn_forms.specs.Changes.{IsKind, IsChange, index_of, kind_bytes, change_bytes, rows, next_kind, next_index, next_change, change_at, last_u32}
use Rattle.txn_forms.proofs.Indexes.{index_at, change_there}

-- ---- what a change does

row_form : IsForm (λ row. (0 ≤ length row) × (length row ≤ last_u32) × (length row < 2 ^ 32)) counted (bytes_in 0 last_u32)
row_form = counted_form 0 last_u32

byte_form : IsForm (λ k. (1 ≤ k) × (k ≤ 3) × (k < 256 ^ 1)) (number 1) (number_in 1 1 3)
byte_form = number_form 1 1 3 (omega arith)

kind_reads : (x : ChangeKind) (rest : List ℕ) → IsKind x → next_kind (kind_bytes x ++ rest) ≡ Got x rest
unfolding next_kind
kind_reads (Insert row) rest fits = reads_on byte_form _ 1 (counted row) rest (omega arith, omega arith, omega arith) ∙ reads_last row_form (λ r. pure (Insert r)) row rest (omega arith, fits, omega (arith, fits))
kind_reads (Update row) rest fits = reads_on byte_form _ 2 (counted row) rest (omega arith, omega arith, omega arith) ∙ reads_last row_form (λ r. pure (Update r)) row rest (omega arith, fits, omega (arith, fits))
kind_reads Delete rest fits = reads_last byte_form _ 3 rest (omega arith, omega arith, omega arith)

row_spells : (k : ℕ) (bytes rest : List ℕ) (x : ChangeKind) → 1 ≤ k → k ≤ 3 → slice_index_or rows (k - 1) (pure Delete) bytes ≡ Got x rest → IsKind x × (number 1 k ++ bytes ≡ kind_bytes x ++ rest)
row_spells zero bytes rest x low high e = absurd (omega (arith, low))
row_spells (suc zero) bytes rest x low high e =
    let a = step row_form (λ r. pure (Insert r)) bytes rest x e in
    ends (λ y more. IsKind y × (number 1 1 ++ bytes ≡ kind_bytes y ++ more)) _ x a.behind rest a.then_reads (a.fits.1, glue _ _ _ _ _ refl a.parts)
row_spells (suc (suc zero)) bytes rest x low high e =
    let a = step row_form (λ r. pure (Update r)) bytes rest x e in
    ends (λ y more. IsKind y × (number 1 2 ++ bytes ≡ kind_bytes y ++ more)) _ x a.behind rest a.then_reads (a.fits.1, glue _ _ _ _ _ refl a.parts)
row_spells (suc (suc (suc zero))) bytes rest x low high e =
    ends (λ y more. IsKind y × (number 1 3 ++ bytes ≡ kind_bytes y ++ more)) Delete x bytes rest e (tt, refl)
row_spells (suc (suc (suc (suc k)))) bytes rest x low high e = absurd (omega (arith, high))

kind_form : IsForm IsKind kind_bytes next_kind
unfolding next_kind
kind_form = record {
  reads = λ x rest fits. kind_reads x rest fits;
  spells = λ bytes rest x e.
      (let a = step byte_form _ bytes rest x e in
      let b = row_spells a.first a.behind rest x a.fits.0 a.fits.1 a.then_reads in
      (b.0, a.parts ∙ b.1));
}

-- ---- the index of its item

index_form : (m : ℕ) → m ≤ 2 ^ 32 → IsForm (λ n. n < m) (number 4) (next_index m)
index_form zero few = record {
  reads = λ n rest fits. absurd (omega (arith, fits));
  spells = λ bytes rest n e. (let f = number_in-got 4 1 0 n bytes rest (omega arith) e in absurd (omega (arith, f.above, f.below)));
}
index_form (suc m) few = record {
  reads = λ n rest fits. (number_form 4 0 m (omega arith)).reads n rest (omega arith, omega (arith, fits), omega (arith, fits, few));
  spells = λ bytes rest n e. (let f = number_in-got 4 0 m n bytes rest (omega arith) e in (omega (arith, f.below), f.parts));
}

index_there : (xs : List Item) (i : Item) → has_item xs i ≡ true → (index_of i xs < length xs) × (slice_get xs (index_of i xs) ≡ Some i)
index_there [] i h = absurd cc
index_there (x ∷ xs) i h = go (item_eq i x) refl (λ k. index_there xs i k)
  where
    go : (t : Bool) → item_eq i x ≡ t → (has_item xs i ≡ true → (index_of i xs < length xs) × (slice_get xs (index_of i xs) ≡ Some i)) → (index_of i (x ∷ xs) < length (x ∷ xs)) × (slice_get (x ∷ xs) (index_of i (x ∷ xs)) ≡ Some i)
    go true f later =
        let at : index_of i (x ∷ xs) ≡ 0 = rw (index_of, f) refl in
        (omega (arith, at), ap (slice_get (x ∷ xs)) at ∙ ap (λ (j : Item). Some j) (sym (item_eq_same i x f)))
    go false f later =
        let there = later (rw f at h) in
        let at : index_of i (x ∷ xs) ≡ suc (index_of i xs) = rw (index_of, f) refl in
        (omega (arith, at, there.0), ap (slice_get (x ∷ xs)) at ∙ there.1)

has_at : (xs : List Item) (i : Item) (n : ℕ) → slice_get xs n ≡ Some i → has_item xs i ≡ true
has_at [] i n e = absurd cc
has_at (x ∷ xs) i zero e =
    let same : x ≡ i = cc in
    let ties : item_eq i x ≡ true = subst (λ (j : Item). item_eq i j ≡ true) (sym same) (item_eq_itself i) in
    rw ties refl
has_at (x ∷ xs) i (suc n) e = or_second (item_eq i x) (has_item xs i) (has_at xs i n e)
  where
    or_second : (s t : Bool) → t ≡ true → s || t ≡ true
    or_second true t h = refl
    or_second false t h = h

-- the item, what the change does, and what is left
pub record Found (xs : List Item) (n : ℕ) (what : ChangeKind) (bytes : List ℕ) (c : Change) (rest : List ℕ) : Type 0 where
  pub item : slice_get xs n ≡ Some c.item
  pub kind : what ≡ c.what
  pub left : bytes ≡ rest

change_got : (xs : List Item) (n : ℕ) (what : ChangeKind) (bytes rest : List ℕ) (c : Change) → change_at xs n what bytes ≡ Got c rest → Found xs n what bytes c rest
change_got [] n what bytes rest c e = absurd cc
change_got (x ∷ xs) zero what bytes rest c e =
    let made : Change = record { item = x; what = what } in
    let is : made ≡ c = cc in
    record { item = ap (λ (d : Change). Some d.item) is; kind = ap (λ (d : Change). d.what) is; left = cc }
change_got (x ∷ xs) (suc n) what bytes rest c e = (let f = change_got xs n what bytes rest c e in record { item = f.item; kind = f.kind; left = f.left })

-- ---- changes

pub change_read : (items : List Item) → length items ≤ 2 ^ 32 → IsRead (IsChange items) (change_bytes items) (next_change items)
unfolding next_change
change_read items few = record {
  reads = λ c rest fits.
      (let there = index_there items c.item fits.item in
      reads_on (index_form (length items) few) _ (index_of c.item items) (kind_bytes c.what) rest there.0
      ∙ reads_last kind_form _ c.what rest fits.what
      ∙ change_there items c.item (index_of c.item items) c.what rest there.1);
}

pub change_spelled : (items : List Item) → length items ≤ 2 ^ 32 → ascend items ≡ true → IsSpelled (IsChange items) (change_bytes items) (next_change items)
unfolding next_change
change_spelled items few up = record {
  spells = λ bytes rest c e.
      (let a = step (index_form (length items) few) _ bytes rest c e in
      let b = step kind_form _ a.behind rest c a.then_reads in
      let f = change_got items a.first b.first b.behind rest c b.then_reads in
      let index : index_of c.item items ≡ a.first = index_at items c.item a.first up f.item in
      let spelled : bytes ≡ (number 4 a.first ++ kind_bytes b.first) ++ b.behind = glue _ _ _ _ _ a.parts b.parts in (
        record { item = has_at items c.item a.first f.item; what = subst IsKind f.kind b.fits },
        spelled ∙ ap (λ n. (number 4 n ++ kind_bytes b.first) ++ b.behind) (sym index) ∙ ap (λ (w : ChangeKind). (number 4 (index_of c.item items) ++ kind_bytes w) ++ b.behind) f.kind ∙ ap (λ xs. change_bytes items c ++ xs) f.left,
      ));
}
