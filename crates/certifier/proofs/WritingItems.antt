-- Items that are written one after another.
use Rattle.std.proofs.Common.{◌≡◌, ℕ, zero, suc, ◌+◌, ◌<◌, ◌||◌, Bool, true, false, cond, Some, List, [], ◌∷◌, ◌++◌, map, length, get_or, take, drop, drop-cons, add-one, refl, sym, ap, ◌∙◌}
use Rattle.std.specs.Prelude.{if◌then◌else◌, is_some}
use Rattle.std.specs.Ordering.{is_eq}
use Rattle.std.proofs.Math.Seq.{take-suc}
use Rattle.std.proofs.lemmas.Map.Lookups.{btree_map_from_get}
use Rattle.std.specs.List.Sorted.{IsStrictlySortedBy}
use Rattle.std.specs.Map.{keys_of}
use Rattle.std.specs.BTreeMap.{BTreeMap, IsOrdered, insert_entry}
use Rattle.key_items.specs.declared.item.Item.{Item}
use Rattle.key_items.specs.Items.{item_eq, has_item}
use Rattle.group_rules.specs.Certifier.{written_by}
use Rattle.certifier.specs.declared.writer.Writer.{Writer}
use Rattle.certifier.specs.Inside.{AreThere, item_cmp, kept_in}
use Rattle.certifier.proofs.ItemMaps.{inserted}
use Rattle.key_items.proofs.Order.{item_cmp_total, item_eq_cmp, item_eq_same}
use Rattle.certifier.proofs.PuttingBack.{Entries, writer_at, item_eq_back}

-- the first n of these are written, and with those that are left come to the whole
pub record Writing (w : Writer) (written : List Item) (es : Entries) (n : ℕ) (now : Entries) : Type 0 where
  pub whole : written_by w.place w.gtid (drop n written) (map kept_in now) ≡ written_by w.place w.gtid written (map kept_in es)
  pub so_far : (q : Item) → writer_at now q ≡ (if has_item (take n written) q then Some w else writer_at es q)
  pub ordered : IsStrictlySortedBy item_cmp (keys_of now)

pub writing_begun : (w : Writer) (written : List Item) (es : Entries) → IsStrictlySortedBy item_cmp (keys_of es) → Writing w written es 0 es
writing_begun w written es o = record { whole = refl; so_far = λ q. refl; ordered = o }

pub has_last : (xs : List Item) (x q : Item) → has_item (xs ++ x ∷ []) q ≡ (item_eq q x || has_item xs q)
has_last [] x q = refl
has_last (y ∷ ys) x q = ap (λ b. item_eq q y || b) (has_last ys x q) ∙ swapped (item_eq q y) (item_eq q x) (has_item ys q)
  where
    swapped : (a b c : Bool) → (a || (b || c)) ≡ (b || (a || c))
    swapped true true c = refl
    swapped true false c = refl
    swapped false b c = refl

-- one more is written
pub writing_next : (w : Writer) (written : List Item) (es : Entries) (n : ℕ) (now after : Entries) (item : Item) → n < length written → item ≡ get_or written n item
    → after ≡ insert_entry item_cmp now item w → ((q : Item) → writer_at after q ≡ cond (is_eq (item_cmp item q)) (Some w) (writer_at now q))
    → IsStrictlySortedBy item_cmp (keys_of after) → Writing w written es n now → Writing w written es (n + 1) after
writing_next w written es n now after item l item_is e put o h = record { whole = whole; so_far = so_far; ordered = o }
  where
    at : drop n written ≡ item ∷ drop (n + 1) written
    at = rw (add-one) (drop-cons written n item l ∙ ap (λ i. i ∷ drop (suc n) written) (sym item_is))

    whole : written_by w.place w.gtid (drop (n + 1) written) (map kept_in after) ≡ written_by w.place w.gtid written (map kept_in es)
    whole = ap (written_by w.place w.gtid (drop (n + 1) written)) (ap (map kept_in) e ∙ inserted now item w) ∙ (ap (λ is. written_by w.place w.gtid is (map kept_in now)) (sym at) ∙ h.whole)

    front : take (n + 1) written ≡ take n written ++ item ∷ []
    front = rw (add-one) (take-suc written n item l ∙ ap (λ i. take n written ++ i ∷ []) (sym item_is))

    so_far : (q : Item) → writer_at after q ≡ (if has_item (take (n + 1) written) q then Some w else writer_at es q)
    so_far q = go (item_eq q item) refl (put q) (h.so_far q) ∙ ap (λ b. if b then Some w else writer_at es q) (sym (ap (λ is. has_item is q) front ∙ has_last (take n written) item q))
      where
        go : (u : Bool) → item_eq q item ≡ u → writer_at after q ≡ cond (is_eq (item_cmp item q)) (Some w) (writer_at now q) → writer_at now q ≡ (if has_item (take n written) q then Some w else writer_at es q)
            → writer_at after q ≡ (if (item_eq q item || has_item (take n written) q) then Some w else writer_at es q)
        go true f p r = rw f (p ∙ ap (λ c. cond c (Some w) (writer_at now q)) (sym (item_eq_back item q) ∙ f))
        go false f p r = rw f (p ∙ (ap (λ c. cond c (Some w) (writer_at now q)) (sym (item_eq_back item q) ∙ f) ∙ r))

-- what was written is there
pub there_so_far : (w : Writer) (written : List Item) (es : Entries) (n : ℕ) (now : Entries) → Writing w written es n now → AreThere now (take n written)
there_so_far w written es n now h i m = let e : writer_at now i ≡ Some w = rw m at (h.so_far i) in ap is_some e

-- all that were written have again what they had
pub back_again : (w : Writer) (written : List Item) (n : ℕ) (was now after : BTreeMap Item Writer) → Writing w written was.entries n now.entries
    → ((q : Item) → writer_at after.entries q ≡ (if has_item (take n written) q then writer_at was.entries q else writer_at now.entries q))
    → IsOrdered item_cmp was → IsOrdered item_cmp after → after.entries ≡ was.entries
back_again w written n was now after h b o p = btree_map_from_get item_cmp_total after was p o at (λ x y e. item_eq_same x y (item_eq_cmp x y ∙ ap is_eq e))
  where
    at : (q : Item) → writer_at after.entries q ≡ writer_at was.entries q
    at q = go (has_item (take n written) q) refl (b q) (h.so_far q)
      where
        go : (u : Bool) → has_item (take n written) q ≡ u → writer_at after.entries q ≡ (if has_item (take n written) q then writer_at was.entries q else writer_at now.entries q)
            → writer_at now.entries q ≡ (if has_item (take n written) q then Some w else writer_at was.entries q) → writer_at after.entries q ≡ writer_at was.entries q
        go true f x y = rw f at x
        go false f x y = let x2 : writer_at after.entries q ≡ writer_at now.entries q = rw f at x in let y2 : writer_at now.entries q ≡ writer_at was.entries q = rw f at y in x2 ∙ y2

pub taken_map : {A B : Type 0} (f : A → B) (n : ℕ) (xs : List A) → take n (map f xs) ≡ map f (take n xs)
taken_map f zero xs = refl
taken_map f (suc n) [] = refl
taken_map f (suc n) (x ∷ xs) = ap (λ ys. f x ∷ ys) (taken_map f n xs)
