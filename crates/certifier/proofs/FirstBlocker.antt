-- The writer that stands in the way of a transaction, of all that are kept and by the transaction's own items.
use Rattle.std.proofs.Common.{◌≡◌, ◌<◌, ◌≤◌, arith, ltb, Bool, true, false, not, ◌&&◌, Option, Some, None, List, [], ◌∷◌, map, refl, sym, ap, ◌∙◌, subst}
use Rattle.std.specs.Prelude.{option_map, nat_lt}
use Rattle.std.specs.List.{AllByRecursion}
use Rattle.std.specs.List.Sorted.{IsStrictlySortedBy}
use Rattle.std.specs.Map.{keys_of, lookup}
use Rattle.std.specs.BTreeMap.{is_at}
use Rattle.std.specs.Ordering.{is_eq, is_lt, ordering_reverse}
use Rattle.std.specs.declared.cmp.Ordering.{Ordering}
use Rattle.std.specs.declared.cmp.Ordering.TheVariants.{Less, Equal, Greater}
use Rattle.std.proofs.lemmas.Bool.{and_parts, ltb-true, ltb-false}
use Rattle.std.proofs.lemmas.Map.Keys.{sorted_head, sorted_tail}
use Rattle.gtid_sets.specs.Sets.{Gtids, has}
use Rattle.key_items.specs.declared.item.Item.{Item}
use Rattle.key_items.specs.Items.{item_eq, item_lt, has_item, ascend}
use Rattle.key_items.specs.declared.item.KeptItem.{KeptItem}
use Rattle.key_items.proofs.Order.{Stands, Below, Same, Above, stands, item_cmp_total, item_lt_cmp, item_eq_cmp, item_eq_same, item_lt_trans}
use Rattle.txn_forms.specs.declared.body.Txn.{Txn}
use Rattle.group_rules.specs.Certifier.{blocker, later_of}
use Rattle.certifier.specs.declared.writer.Writer.{Writer}
use Rattle.certifier.specs.Blockers.{later_writer, unseen, writer_of}
use Rattle.certifier.specs.Inside.{item_cmp, kept_in}

abbrev pub Entries : Type 0
Entries = List (Item × Writer)

-- by the transaction's own items
abbrev pub best : Gtids → Entries → List Item → Option Writer
best s es [] = None
best s es (i ∷ is) = later_writer (unseen s (lookup (is_at (item_cmp i)) es)) (best s es is)

-- of all that are kept
abbrev among : Gtids → List Item → Entries → Option Writer
among s is [] = None
among s is (e ∷ es) = elim (has_item is e.0 && not (has s e.1.gtid)) [ true ↦ later_writer (Some e.1) (among s is es) | false ↦ among s is es ]

later_is : (e : Item × Writer) (o : Option KeptItem) → option_map writer_of (later_of (kept_in e) o) ≡ later_writer (Some e.1) (option_map writer_of o)
later_is e None = refl
later_is e (Some j) = go (nat_lt j.place e.1.place) refl
  where
    go : (b : Bool) → nat_lt j.place e.1.place ≡ b → option_map writer_of (later_of (kept_in e) (Some j)) ≡ later_writer (Some e.1) (option_map writer_of (Some j))
    go true f = rw f refl
    go false f = rw f refl

blocker_among : (es : Entries) (t : Txn) → option_map writer_of (blocker (map kept_in es) t) ≡ among t.snapshot t.items es
blocker_among [] t = refl
blocker_among (e ∷ es) t = go (has_item t.items e.0 && not (has t.snapshot e.1.gtid)) refl (blocker_among es t)
  where
    go : (b : Bool) → (has_item t.items e.0 && not (has t.snapshot e.1.gtid)) ≡ b → option_map writer_of (blocker (map kept_in es) t) ≡ among t.snapshot t.items es
        → option_map writer_of (blocker (map kept_in (e ∷ es)) t) ≡ among t.snapshot t.items (e ∷ es)
    go true f r = rw (f, blocker, among) (later_is e (blocker (map kept_in es) t) ∙ ap (later_writer (Some e.1)) r)
    go false f r = rw (f, blocker, among) r

-- ---- one item more

-- no item of these is at or below the first
none_at : (i : Item) (is : List Item) → ascend (i ∷ is) ≡ true → (j : Item) → item_lt i j ≡ false → has_item is j ≡ false
none_at i [] h j l = refl
none_at i (x ∷ xs) h j l = go (stands j x) (none_at x xs (and_parts (item_lt i x) (ascend (x ∷ xs)) h).1 j)
  where
    first : item_lt i x ≡ true
    first = (and_parts (item_lt i x) (ascend (x ∷ xs)) h).0

    not_below : item_lt x j ≡ true → ⊥
    not_below m = let z : item_lt i j ≡ true = item_lt_trans i x j first m in cc

    go : Stands j x → (item_lt x j ≡ false → has_item xs j ≡ false) → has_item (x ∷ xs) j ≡ false
    go (Below a b c d) r = rw b (r c)
    go (Same a b c d) r = let e : x ≡ j = item_eq_same x j d in absurd (let z : item_lt i j ≡ true = subst (λ y. item_lt i y ≡ true) e first in cc)
    go (Above a b c d) r = absurd (not_below c)

apart : (i k : Item) → item_cmp i k ≡ Less → item_eq k i ≡ false
apart i k e = item_eq_cmp k i ∙ ap is_eq (item_cmp_total.antisymm k i ∙ ap ordering_reverse e)

-- all keys are above the item
abbrev pub AreAbove : Item → Entries → Type 0
AreAbove i es = AllByRecursion (λ y. item_cmp i y ≡ Less) (keys_of es)

pub more_above : (i j : Item) (es : Entries) → item_cmp i j ≡ Less → AreAbove j es → AreAbove i es
more_above i j [] l h = tt
more_above i j (e ∷ es) l h = (item_cmp_total.trans i j e.0 l h.0, more_above i j es l h.1)

same_among : (s : Gtids) (i : Item) (is : List Item) (es : Entries) → AreAbove i es → among s (i ∷ is) es ≡ among s is es
same_among s i is [] h = refl
same_among s i is (e ∷ es) h = go (has_item is e.0 && not (has s e.1.gtid)) refl (apart i e.0 h.0) (same_among s i is es h.1)
  where
    go : (b : Bool) → (has_item is e.0 && not (has s e.1.gtid)) ≡ b → item_eq e.0 i ≡ false → among s (i ∷ is) es ≡ among s is es → among s (i ∷ is) (e ∷ es) ≡ among s is (e ∷ es)
    go true f a r = rw (a, f, among) (ap (later_writer (Some e.1)) r)
    go false f a r = rw (a, f, among) r

pub not_there : (i : Item) (es : Entries) → AreAbove i es → lookup (is_at (item_cmp i)) es ≡ None
not_there i [] h = refl
not_there i (e ∷ es) h = rw (h.0) (not_there i es h.1)

one_more : (s : Gtids) (i : Item) (is : List Item) → ascend (i ∷ is) ≡ true → (es : Entries) → IsStrictlySortedBy item_cmp (keys_of es)
    → among s (i ∷ is) es ≡ later_writer (unseen s (lookup (is_at (item_cmp i)) es)) (among s is es)
one_more s i is h [] o = refl
one_more s i is h (e ∷ es) o = go (item_cmp i e.0) refl (one_more s i is h es (sorted_tail item_cmp e.0 (keys_of es) o))
  where
    up : AreAbove e.0 es
    up = sorted_head item_cmp e.0 (keys_of es) o

    go : (c : Ordering) → item_cmp i e.0 ≡ c → among s (i ∷ is) es ≡ later_writer (unseen s (lookup (is_at (item_cmp i)) es)) (among s is es)
        → among s (i ∷ is) (e ∷ es) ≡ later_writer (unseen s (lookup (is_at (item_cmp i)) (e ∷ es))) (among s is (e ∷ es))
    go Less c r =
        let all : AreAbove i (e ∷ es) = (c, more_above i e.0 es c up) in
        rw (not_there i (e ∷ es) all) (same_among s i is (e ∷ es) all)
    go Equal c r =
        let same : i ≡ e.0 = item_eq_same i e.0 (item_eq_cmp i e.0 ∙ ap is_eq c) in
        let all : AreAbove i es = subst (λ j. AreAbove j es) (sym same) up in
        let here : item_eq e.0 i ≡ true = item_eq_cmp e.0 i ∙ ap is_eq (item_cmp_total.antisymm e.0 i ∙ ap ordering_reverse c) in
        let behind : has_item is e.0 ≡ false = none_at i is h e.0 (item_lt_cmp i e.0 ∙ ap is_lt c) in
        found (has s e.1.gtid) refl here behind (same_among s i is es all) c
      where
        found : (b : Bool) → has s e.1.gtid ≡ b → item_eq e.0 i ≡ true → has_item is e.0 ≡ false → among s (i ∷ is) es ≡ among s is es → item_cmp i e.0 ≡ Equal
            → among s (i ∷ is) (e ∷ es) ≡ later_writer (unseen s (lookup (is_at (item_cmp i)) (e ∷ es))) (among s is (e ∷ es))
        found true f here behind same c = rw (here, behind, c, f, same, among) refl
        found false f here behind same c = rw (here, behind, c, f, same, among) refl
    go Greater c r =
        let off : item_eq e.0 i ≡ false = item_eq_cmp e.0 i ∙ ap is_eq (item_cmp_total.antisymm e.0 i ∙ ap ordering_reverse c) in
        let behind : has_item is e.0 ≡ false = none_at i is h e.0 (item_lt_cmp i e.0 ∙ ap is_lt c) in
        rw (off, behind, c, among) r

none_among : (s : Gtids) (es : Entries) → among s [] es ≡ None
none_among s [] = refl
none_among s (e ∷ es) = none_among s es

ascend_tail : (x : Item) (xs : List Item) → ascend (x ∷ xs) ≡ true → ascend xs ≡ true
ascend_tail x [] h = refl
ascend_tail x (y ∷ ys) h = (and_parts (item_lt x y) (ascend (y ∷ ys)) h).1

among_best : (s : Gtids) (es : Entries) → IsStrictlySortedBy item_cmp (keys_of es) → (is : List Item) → ascend is ≡ true → among s is es ≡ best s es is
among_best s es o [] h = none_among s es
among_best s es o (i ∷ is) h = one_more s i is h es o ∙ ap (later_writer (unseen s (lookup (is_at (item_cmp i)) es))) (among_best s es o is (ascend_tail i is h))

pub blocker_is : (es : Entries) (t : Txn) → IsStrictlySortedBy item_cmp (keys_of es) → ascend t.items ≡ true → option_map writer_of (blocker (map kept_in es) t) ≡ best t.snapshot es t.items
blocker_is es t o h = blocker_among es t ∙ among_best t.snapshot es o t.items h

-- ---- from the first item on

pub later_twice : (a b c : Option Writer) → later_writer a (later_writer b c) ≡ later_writer (later_writer a b) c
later_twice None b c = refl
later_twice (Some a) None c = refl
later_twice (Some a) (Some b) None = go (nat_lt b.place a.place) refl
  where
    go : (t : Bool) → nat_lt b.place a.place ≡ t → later_writer (Some a) (later_writer (Some b) None) ≡ later_writer (later_writer (Some a) (Some b)) None
    go true e = rw e refl
    go false e = rw e refl
later_twice (Some a) (Some b) (Some c) = go (ltb b.place a.place) (ltb c.place b.place) (ltb c.place a.place) refl refl refl
  where
    go : (x y z : Bool) → ltb b.place a.place ≡ x → ltb c.place b.place ≡ y → ltb c.place a.place ≡ z → later_writer (Some a) (later_writer (Some b) (Some c)) ≡ later_writer (later_writer (Some a) (Some b)) (Some c)
    go true true true e f g = rw (e, f, e, g) refl
    go true true false e f g =
        let p : b.place < a.place = ltb-true b.place a.place e in
        let q : c.place < b.place = ltb-true c.place b.place f in
        let r : a.place ≤ c.place = ltb-false c.place a.place g in
        absurd (omega arith)
    go true false true e f g = rw (e, f, g) refl
    go true false false e f g = rw (e, f, g) refl
    go false true z e f g = rw (e, f, e) refl
    go false false true e f g =
        let p : a.place ≤ b.place = ltb-false b.place a.place e in
        let q : b.place ≤ c.place = ltb-false c.place b.place f in
        let r : c.place < a.place = ltb-true c.place a.place g in
        absurd (omega arith)
    go false false false e f g = rw (e, f, g) refl

pub later_none : (o : Option Writer) → later_writer o None ≡ o
later_none None = refl
later_none (Some w) = refl
