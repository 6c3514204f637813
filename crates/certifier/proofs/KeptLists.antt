-- An ascending list of kept items put into a map.
use Rattle.std.proofs.Common.{◌≡◌, true, List, [], ◌∷◌, ◌++◌, map, length, arith, append_assoc, refl, sym, ap, ◌∙◌}
use Rattle.std.specs.Prelude.{fold}
use Rattle.std.specs.BTreeMap.{insert_entry}
use Rattle.std.proofs.lemmas.Bool.{and_parts}
use Rattle.key_items.specs.declared.item.Item.{Item}
use Rattle.key_items.specs.declared.item.KeptItem.{KeptItem}
use Rattle.key_items.specs.Items.{item_lt, ascend}
use Rattle.key_items.proofs.Order.{Stands, Below, Same, Above, stands, item_lt_trans}
use Rattle.group_rules.specs.Certifier.{with_kept}
use Rattle.certifier.specs.declared.writer.Writer.{Writer}
use Rattle.certifier.specs.Blockers.{writer_of}
use Rattle.certifier.specs.Certifying.{item_of}
use Rattle.certifier.specs.Inside.{item_cmp, kept_in}
use Rattle.certifier.proofs.ItemMaps.{inserted}

-- what is left, put in one after another, gives all that there was
abbrev pub Filling : List KeptItem → List (Item × Writer) → List KeptItem → Type 0
Filling all es left = fold with_kept (map kept_in es) left ≡ fold with_kept [] all

-- all of the list are below the item
abbrev AreBelow : List KeptItem → Item → Type 0
AreBelow [] i = Unit {0}
AreBelow (k ∷ ks) i = (item_lt k.item i ≡ true) × AreBelow ks i

at_end : (ks : List KeptItem) (k : KeptItem) → AreBelow ks k.item → with_kept ks k ≡ ks ++ k ∷ []
at_end [] k h = refl
at_end (x ∷ xs) k h = go (stands k.item x.item) (at_end xs k h.1)
  where
    go : Stands k.item x.item → with_kept xs k ≡ xs ++ k ∷ [] → with_kept (x ∷ xs) k ≡ (x ∷ xs) ++ k ∷ []
    go (Below a b c d) r = absurd (let z : item_lt x.item k.item ≡ true = h.0 in cc)
    go (Same a b c d) r = absurd (let z : item_lt x.item k.item ≡ true = h.0 in cc)
    go (Above a b c d) r = rw (a, b, with_kept) (ap (λ l. x ∷ l) r)

below_next : (ks : List KeptItem) (i j : Item) → AreBelow ks i → item_lt i j ≡ true → AreBelow ks j
below_next [] i j h l = tt
below_next (k ∷ ks) i j h l = (item_lt_trans k.item i j h.0 l, below_next ks i j h.1 l)

and_below : (ks : List KeptItem) (k : KeptItem) (j : Item) → AreBelow ks j → item_lt k.item j ≡ true → AreBelow (ks ++ k ∷ []) j
and_below [] k j h l = (l, tt)
and_below (x ∷ xs) k j h l = (h.0, and_below xs k j h.1 l)

filled : (ks front : List KeptItem) (k : KeptItem) → AreBelow front k.item → ascend (map item_of (k ∷ ks)) ≡ true → fold with_kept front (k ∷ ks) ≡ front ++ k ∷ ks
filled [] front k h a = at_end front k h
filled (x ∷ xs) front k h a =
    let p = and_parts (item_lt k.item x.item) (ascend (map item_of (x ∷ xs))) a in
    let up : AreBelow (front ++ k ∷ []) x.item = and_below front k x.item (below_next front k.item x.item h p.0) p.0 in
    let r : fold with_kept (front ++ k ∷ []) (x ∷ xs) ≡ (front ++ k ∷ []) ++ x ∷ xs = filled xs (front ++ k ∷ []) x up p.1 in
    ap (λ f. fold with_kept f (x ∷ xs)) (at_end front k h) ∙ (r ∙ append_assoc front (k ∷ []) (x ∷ xs))

-- items that ascend are put in as they are
pub filled_up : (ks : List KeptItem) → ascend (map item_of ks) ≡ true → fold with_kept [] ks ≡ ks
filled_up [] a = refl
filled_up (k ∷ ks) a = filled ks [] k tt a

-- one item more is put in
pub filling_next : (all : List KeptItem) (es fs : List (Item × Writer)) (left rest : List KeptItem) (k : KeptItem) → Filling all es left → left ≡ k ∷ rest
    → fs ≡ insert_entry item_cmp es k.item (writer_of k) → Filling all fs rest
filling_next all es fs left rest k f l e =
    ap (λ ks. fold with_kept ks rest) (ap (map kept_in) e ∙ inserted es k.item (writer_of k)) ∙ (ap (fold with_kept (map kept_in es)) (sym l) ∙ f)

pub filling_end : (all : List KeptItem) (es : List (Item × Writer)) (left : List KeptItem) → ascend (map item_of all) ≡ true → left ≡ [] → Filling all es left → map kept_in es ≡ all
filling_end all es left a l f = ap (fold with_kept (map kept_in es)) (sym l) ∙ (f ∙ filled_up all a)

pub no_items : (ks : List KeptItem) → length ks ≡ 0 → ks ≡ []
no_items [] e = refl
no_items (k ∷ ks) e = absurd (omega (arith, e))
