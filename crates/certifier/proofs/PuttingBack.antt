-- Items that are given the writers that they had before.
use Rattle.std.proofs.Common.{◌≡◌, ℕ, zero, suc, ◌+◌, ◌<◌, ◌≤◌, ◌||◌, Bool, true, false, cond, Option, List, [], ◌∷◌, map, length, get_or, drop, drop-cons, add-one, refl, sym, ap, subst, ◌∙◌, arith}
use Rattle.std.specs.Prelude.{if◌then◌else◌, IsSome}
use Rattle.std.specs.List.Sorted.{IsStrictlySortedBy}
use Rattle.std.specs.Map.{keys_of, lookup}
use Rattle.std.specs.BTreeMap.{is_at}
use Rattle.std.specs.Ordering.{is_eq, ordering_reverse}
use Rattle.std.specs.declared.cmp.Ordering.{Ordering}
use Rattle.std.specs.declared.cmp.Ordering.TheVariants.{Less, Equal, Greater}
use Rattle.std.proofs.lemmas.List.{drop_all}
use Rattle.key_items.specs.declared.item.Item.{Item}
use Rattle.key_items.specs.Items.{item_eq, has_item}
use Rattle.key_items.proofs.Order.{item_cmp_total, item_eq_cmp, item_eq_same, item_eq_itself}
use Rattle.certifier.specs.declared.writer.Writer.{Writer}
use Rattle.certifier.specs.Inside.{AreThere, item_cmp}

abbrev pub Entries : Type 0
Entries = List (Item × Writer)

abbrev pub writer_at : Entries → Item → Option Writer
writer_at es i = lookup (is_at (item_cmp i)) es

-- those before the first n of these items have what they had, and with the others they come to that
pub record BackTo (written : List Item) (was : Item → Option Writer) (es : Entries) (n : ℕ) (now : Entries) : Type 0 where
  pub value : (q : Item) → (if has_item (drop n written) q then was q else writer_at now q) ≡ (if has_item written q then was q else writer_at es q)
  pub there : (q : Item) → has_item written q ≡ true → IsSome (was q) → IsSome (writer_at now q)

pub record Backing (written : List Item) (before : List (Option Writer)) (es : Entries) (n : ℕ) (now : Entries) : Type 0 where
  pub back : (was : Item → Option Writer) → before ≡ map was written → AreThere es written → BackTo written was es n now
  pub ordered : IsStrictlySortedBy item_cmp (keys_of es) → IsStrictlySortedBy item_cmp (keys_of now)

pub backing_begun : (written : List Item) (before : List (Option Writer)) (es : Entries) → Backing written before es 0 es
backing_begun written before es = record { back = λ was e t. record { value = λ q. refl; there = λ q h s. t q h }; ordered = λ o. o }

turned : (o : Ordering) → is_eq (ordering_reverse o) ≡ is_eq o
turned Less = refl
turned Equal = refl
turned Greater = refl

pub item_eq_back : (a b : Item) → item_eq b a ≡ is_eq (item_cmp a b)
item_eq_back a b = item_eq_cmp b a ∙ (ap is_eq (item_cmp_total.antisymm b a) ∙ turned (item_cmp a b))

has_its_own : (xs : List Item) (k : ℕ) (d : Item) → k < length xs → has_item xs (get_or xs k d) ≡ true
has_its_own [] k d l = absurd (omega arith)
has_its_own (x ∷ xs) zero d l = rw (item_eq_itself x) refl
has_its_own (x ∷ xs) (suc k) d l = or_right (item_eq (get_or xs k d) x) (has_item xs (get_or xs k d)) (has_its_own xs k d (omega arith))
  where
    or_right : (a b : Bool) → b ≡ true → (a || b) ≡ true
    or_right true b e = refl
    or_right false b e = e

mapped_at : (was : Item → Option Writer) (xs : List Item) (k : ℕ) (d : Item) (e : Option Writer) → k < length xs → get_or (map was xs) k e ≡ was (get_or xs k d)
mapped_at was [] k d e l = absurd (omega arith)
mapped_at was (x ∷ xs) zero d e l = refl
mapped_at was (x ∷ xs) (suc k) d e l = mapped_at was xs k d e (omega arith)

-- one more is put back
pub backing_next : (written : List Item) (before : List (Option Writer)) (es : Entries) (n : ℕ) (now after : Entries) (item : Item) (value : Option Writer) → n < length written
    → item ≡ get_or written n item → value ≡ get_or before n value
    → ((IsSome value → IsSome (writer_at now item)) → (q : Item) → writer_at after q ≡ cond (is_eq (item_cmp item q)) value (writer_at now q))
    → IsStrictlySortedBy item_cmp (keys_of after) → Backing written before es n now → Backing written before es (n + 1) after
backing_next written before es n now after item had l item_is had_is put o b = record { back = back; ordered = λ _. o }
  where
    back : (was : Item → Option Writer) → before ≡ map was written → AreThere es written → BackTo written was es (n + 1) after
    back was is t = record { value = value; there = there }
      where
        so_far : BackTo written was es n now
        so_far = b.back was is t

        had_was : had ≡ was item
        had_was = had_is ∙ (ap (λ ws. get_or ws n had) is ∙ (mapped_at was written n item had l ∙ ap was (sym item_is)))

        own : has_item written item ≡ true
        own = subst (λ i. has_item written i ≡ true) (sym item_is) (has_its_own written n item l)

        here : (q : Item) → writer_at after q ≡ cond (is_eq (item_cmp item q)) had (writer_at now q)
        here = put (λ s. so_far.there item own (subst (λ (w : Option Writer). IsSome w) had_was s))

        at : drop n written ≡ item ∷ drop (n + 1) written
        at = rw (add-one) (drop-cons written n item l ∙ ap (λ i. i ∷ drop (suc n) written) (sym item_is))

        value : (q : Item) → (if has_item (drop (n + 1) written) q then was q else writer_at after q) ≡ (if has_item written q then was q else writer_at es q)
        value q = go (item_eq q item) refl (has_item (drop (n + 1) written) q) (here q) (ap (λ is. if has_item is q then was q else writer_at now q) (sym at) ∙ so_far.value q)
          where
            go : (u : Bool) → item_eq q item ≡ u → (v : Bool) → writer_at after q ≡ cond (is_eq (item_cmp item q)) had (writer_at now q)
                → (if (item_eq q item || v) then was q else writer_at now q) ≡ (if has_item written q then was q else writer_at es q)
                → (if v then was q else writer_at after q) ≡ (if has_item written q then was q else writer_at es q)
            go true f v h r =
                let same : q ≡ item = item_eq_same q item f in
                let new : writer_at after q ≡ was q = h ∙ (ap (λ c. cond c had (writer_at now q)) (sym (item_eq_back item q) ∙ f) ∙ (had_was ∙ ap was (sym same))) in
                let old : was q ≡ (if has_item written q then was q else writer_at es q) = rw f at r in
                either v new old
              where
                either : (v : Bool) → writer_at after q ≡ was q → was q ≡ (if has_item written q then was q else writer_at es q) → (if v then was q else writer_at after q) ≡ (if has_item written q then was q else writer_at es q)
                either true new old = old
                either false new old = new ∙ old
            go false f v h r =
                let new : writer_at after q ≡ writer_at now q = h ∙ ap (λ c. cond c had (writer_at now q)) (sym (item_eq_back item q) ∙ f) in
                let old : (if v then was q else writer_at now q) ≡ (if has_item written q then was q else writer_at es q) = rw f at r in
                ap (λ w. if v then was q else w) new ∙ old

        there : (q : Item) → has_item written q ≡ true → IsSome (was q) → IsSome (writer_at after q)
        there q h s = go (item_eq q item) refl (here q) (so_far.there q h s)
          where
            go : (u : Bool) → item_eq q item ≡ u → writer_at after q ≡ cond (is_eq (item_cmp item q)) had (writer_at now q) → IsSome (writer_at now q) → IsSome (writer_at after q)
            go true f r m =
                let same : q ≡ item = item_eq_same q item f in
                let new : writer_at after q ≡ was q = r ∙ (ap (λ c. cond c had (writer_at now q)) (sym (item_eq_back item q) ∙ f) ∙ (had_was ∙ ap was (sym same))) in
                subst (λ (w : Option Writer). IsSome w) (sym new) s
            go false f r m =
                let new : writer_at after q ≡ writer_at now q = r ∙ ap (λ c. cond c had (writer_at now q)) (sym (item_eq_back item q) ∙ f) in
                subst (λ (w : Option Writer). IsSome w) (sym new) m

pub backing_end : (written : List Item) (before : List (Option Writer)) (es : Entries) (n : ℕ) (now : Entries) → length written ≤ n → Backing written before es n now
    → (was : Item → Option Writer) → before ≡ map was written → AreThere es written → (q : Item) → writer_at now q ≡ (if has_item written q then was q else writer_at es q)
backing_end written before es n now l b was is t q = ap (λ is. if has_item is q then was q else writer_at now q) (sym (drop_all n written l)) ∙ (b.back was is t).value q
