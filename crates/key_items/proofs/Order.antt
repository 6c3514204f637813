-- The order of items is total, and items that tie are equal.
use Rattle.std.proofs.Common.{◌≡◌, ℕ, List, ◌&&◌, Bool, true, false, Ordering, Less, Equal, Greater, refl, sym, ap, ◌∙◌}
use Rattle.std.specs.Cmp.{IsTotalOrder}
use Rattle.std.specs.Cmp.Lexicographic.{slice_cmp, texts_ties, same_text}
use Rattle.std.specs.Ordering.{nat_cmp, ordering_then, ordering_reverse, is_lt, is_eq, eq_by_cmp}
use Rattle.std.proofs.lemmas.Cmp.{then_total, on_total, nat_list_cmp_total, tied_itself}
use Rattle.gr_ids.specs.Names.{bytes_eq, bytes_lt}
use Rattle.key_items.specs.Items.{Item, item_eq, item_lt}

-- by table, then key
abbrev pub item_cmp : Item → Item → Ordering
item_cmp a b = ordering_then (slice_cmp nat_cmp a.table b.table) (slice_cmp nat_cmp a.key b.key)

pub item_cmp_total : IsTotalOrder item_cmp
item_cmp_total = then_total (on_total (λ (i : Item). i.table) nat_list_cmp_total) (on_total (λ (i : Item). i.key) nat_list_cmp_total)

pub item_lt_cmp : (a b : Item) → item_lt a b ≡ is_lt (item_cmp a b)
item_lt_cmp a b = go (slice_cmp nat_cmp a.table b.table) (bytes_eq a.table b.table) refl (texts_ties a.table b.table)
  where
    go : (o : Ordering) (e : Bool) → slice_cmp nat_cmp a.table b.table ≡ o → bytes_eq a.table b.table ≡ is_eq (slice_cmp nat_cmp a.table b.table) → item_lt a b ≡ is_lt (item_cmp a b)
    go Less e f t = let u : bytes_eq a.table b.table ≡ false = t ∙ ap is_eq f in rw (u, f) refl
    go Equal e f t = let u : bytes_eq a.table b.table ≡ true = t ∙ ap is_eq f in rw (u, f) refl
    go Greater e f t = let u : bytes_eq a.table b.table ≡ false = t ∙ ap is_eq f in rw (u, f) refl

pub item_eq_cmp : (a b : Item) → item_eq a b ≡ is_eq (item_cmp a b)
item_eq_cmp a b = go (slice_cmp nat_cmp a.table b.table) refl (texts_ties a.table b.table)
  where
    go : (o : Ordering) → slice_cmp nat_cmp a.table b.table ≡ o → bytes_eq a.table b.table ≡ is_eq (slice_cmp nat_cmp a.table b.table) → item_eq a b ≡ is_eq (item_cmp a b)
    go Less f t = let u : bytes_eq a.table b.table ≡ false = t ∙ ap is_eq f in rw (u, f) refl
    go Equal f t = let u : bytes_eq a.table b.table ≡ true = t ∙ ap is_eq f in rw (u, f) (texts_ties a.key b.key)
    go Greater f t = let u : bytes_eq a.table b.table ≡ false = t ∙ ap is_eq f in rw (u, f) refl

-- ---- the three cases

pub data Stands (a b : Item) : Type 0 where
  Below : item_lt a b ≡ true → item_eq a b ≡ false → item_lt b a ≡ false → item_eq b a ≡ false → Stands a b
  Same : item_lt a b ≡ false → item_eq a b ≡ true → item_lt b a ≡ false → item_eq b a ≡ true → Stands a b
  Above : item_lt a b ≡ false → item_eq a b ≡ false → item_lt b a ≡ true → item_eq b a ≡ false → Stands a b

pub stands : (a b : Item) → Stands a b
stands a b = go (item_cmp a b) refl
  where
    back : (o : Ordering) → item_cmp a b ≡ o → item_cmp b a ≡ ordering_reverse o
    back o e = item_cmp_total.antisymm b a ∙ ap ordering_reverse e

    go : (o : Ordering) → item_cmp a b ≡ o → Stands a b
    go Less e = let f = back Less e in Below (item_lt_cmp a b ∙ ap is_lt e) (item_eq_cmp a b ∙ ap is_eq e) (item_lt_cmp b a ∙ ap is_lt f) (item_eq_cmp b a ∙ ap is_eq f)
    go Equal e = let f = back Equal e in Same (item_lt_cmp a b ∙ ap is_lt e) (item_eq_cmp a b ∙ ap is_eq e) (item_lt_cmp b a ∙ ap is_lt f) (item_eq_cmp b a ∙ ap is_eq f)
    go Greater e = let f = back Greater e in Above (item_lt_cmp a b ∙ ap is_lt e) (item_eq_cmp a b ∙ ap is_eq e) (item_lt_cmp b a ∙ ap is_lt f) (item_eq_cmp b a ∙ ap is_eq f)

is_less : (o : Ordering) → is_lt o ≡ true → o ≡ Less
is_less Less e = refl
is_less Equal e = cc
is_less Greater e = cc

pub item_lt_trans : (a b c : Item) → item_lt a b ≡ true → item_lt b c ≡ true → item_lt a c ≡ true
item_lt_trans a b c h k =
    let x = is_less (item_cmp a b) (sym (item_lt_cmp a b) ∙ h) in
    let y = is_less (item_cmp b c) (sym (item_lt_cmp b c) ∙ k) in
    item_lt_cmp a c ∙ ap is_lt (item_cmp_total.trans a b c x y)

pub item_eq_itself : (a : Item) → item_eq a a ≡ true
item_eq_itself a = item_eq_cmp a a ∙ ap is_eq (tied_itself item_cmp_total a)

same_parts : (s t : Bool) → (s && t) ≡ true → (s ≡ true) × (t ≡ true)
same_parts true t e = (refl, e)
same_parts false t e = absurd cc

-- items that tie are equal
pub item_eq_same : (a b : Item) → item_eq a b ≡ true → a ≡ b
item_eq_same a b e =
    let p = same_parts (bytes_eq a.table b.table) (bytes_eq a.key b.key) e in
    let t : a.table ≡ b.table = same_text a.table b.table (sym p.0) in
    let k : a.key ≡ b.key = same_text a.key b.key (sym p.1) in
    let first : a ≡ record { table = b.table; key = a.key } = ap (λ (x : List ℕ). record { table = x; key = a.key }) t in
    first ∙ ap (λ (x : List ℕ). record { table = b.table; key = x }) k
