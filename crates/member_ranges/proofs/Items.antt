-- The items that a certifier keeps ascend, each in its range.
use Rattle.std.proofs.Common.{◌≡◌, inl, inr, ℕ, ◌≤◌, Bool, true, false, not, Option, Some, None, List, [], ◌∷◌, refl, sym, subst, arith}
use Rattle.std.specs.Prelude.{filter}
use Rattle.byte_forms.specs.Lists.{IsChain}
use Rattle.gr_ids.specs.declared.names.Gtid.{Gtid}
use Rattle.name_forms.specs.Gtids.{IsGtid}
use Rattle.gtid_sets.specs.Sets.{Gtids, has}
use Rattle.key_items.specs.declared.item.Item.{Item}
use Rattle.key_items.specs.declared.item.KeptItem.{KeptItem}
use Rattle.key_items.specs.Spelling.{IsItem, IsItemAfter}
use Rattle.key_items.proofs.Order.{Above, Below, Same, Stands, item_eq_same, item_lt_trans, stands}
use Rattle.paxos_forms.specs.Gives.{IsKeptAfter, item_of_kept}
use Rattle.node_rules.specs.Lists.{In}
use Rattle.group_rules.specs.Certifier.{with_kept, written_by}

abbrev pub Kept : ℕ → Option KeptItem → List KeptItem → Type 0
Kept p b ks = IsChain (IsKeptAfter p) b ks

after_item : (b : Option Item) (i : Item) → IsItemAfter b i → IsItem i
after_item None i h = h
after_item (Some x) i h = h.0

-- behind another one
kept_above : (p : ℕ) (b c : Option KeptItem) (k : KeptItem) → IsItemAfter (item_of_kept c) k.item → IsKeptAfter p b k → IsKeptAfter p c k
kept_above p b c k i h = record { item = i; gtid = h.gtid; place_above = h.place_above; place_below = h.place_below }

after_two : (b : Option KeptItem) (x y : KeptItem) → IsItemAfter (item_of_kept b) x.item → IsItemAfter (Some x.item) y.item → IsItemAfter (item_of_kept b) y.item
after_two None x y h k = k.0
after_two (Some z) x y h k = (k.0, item_lt_trans z.item x.item y.item h.1 k.1)

kept_below : (p : ℕ) (ks : List KeptItem) (b : Option KeptItem) (x : KeptItem) → IsItemAfter (item_of_kept b) x.item → Kept p (Some x) ks → Kept p b ks
kept_below p [] b x i h = tt
kept_below p (k ∷ ks) b x i h = (kept_above p (Some x) b k (after_two b x k i (h.0).item) h.0, h.1)

pub kept_later : (p q : ℕ) (ks : List KeptItem) (b : Option KeptItem) → p ≤ q → Kept p b ks → Kept q b ks
kept_later p q [] b l h = tt
kept_later p q (k ∷ ks) b l h = (record { item = (h.0).item; gtid = (h.0).gtid; place_above = (h.0).place_above; place_below = let a = (h.0).place_below in omega (arith, l, a) }, kept_later p q ks (Some k) l h.1)

-- another writer of the same item
kept_same : (p : ℕ) (ks : List KeptItem) (x y : KeptItem) → x.item ≡ y.item → Kept p (Some x) ks → Kept p (Some y) ks
kept_same p [] x y e h = tt
kept_same p (k ∷ ks) x y e h = (kept_above p (Some x) (Some y) k (subst (λ i. IsItemAfter (Some i) k.item) e (h.0).item) h.0, h.1)

kept_with : (p : ℕ) (ks : List KeptItem) (b : Option KeptItem) (k : KeptItem) → Kept p b ks → IsKeptAfter p b k → Kept p b (with_kept ks k)
kept_with p [] b k h i = (i, tt)
kept_with p (x ∷ xs) b k h i = go (stands k.item x.item) (kept_with p xs (Some x) k h.1)
  where
    here : IsItem k.item
    here = after_item (item_of_kept b) k.item i.item

    go : Stands k.item x.item → (IsKeptAfter p (Some x) k → Kept p (Some x) (with_kept xs k)) → Kept p b (with_kept (x ∷ xs) k)
    go (Below c d e f) r = rw (c, with_kept) (i, (kept_above p b (Some k) x (after_item (item_of_kept b) x.item (h.0).item, c) h.0, h.1))
    go (Same c d e f) r = rw (c, d, with_kept) (i, kept_same p xs x k (sym (item_eq_same k.item x.item d)) h.1)
    go (Above c d e f) r = rw (c, d, with_kept) (h.0, r (kept_above p b (Some x) k (here, e) i))

pub kept_written : (p : ℕ) (g : Gtid) (is : List Item) (ks : List KeptItem) → IsGtid g → 1 ≤ p → ((i : Item) → In i is → IsItem i) → Kept p None ks → Kept p None (written_by p g is ks)
kept_written p g [] ks h one f k = k
kept_written p g (i ∷ is) ks h one f k =
    kept_written p g is (with_kept ks (record { item = i; gtid = g; place = p })) h one (λ x q. f x (inr q))
    (kept_with p ks None (record { item = i; gtid = g; place = p }) k (record { item = f i (inl refl); gtid = h; place_above = one; place_below = omega arith }))

pub kept_left : (p : ℕ) (s : Gtids) (ks : List KeptItem) (b : Option KeptItem) → Kept p b ks → Kept p b (filter (λ k. not (has s k.gtid)) ks)
kept_left p s [] b h = tt
kept_left p s (k ∷ ks) b h = go (not (has s k.gtid)) refl (kept_left p s ks (Some k) h.1)
  where
    go : (u : Bool) → not (has s k.gtid) ≡ u → Kept p (Some k) (filter (λ k. not (has s k.gtid)) ks) → Kept p b (filter (λ k. not (has s k.gtid)) (k ∷ ks))
    go true e r = rw e (h.0, r)
    go false e r = rw e (kept_below p (filter (λ k. not (has s k.gtid)) ks) b k (h.0).item r)

-- the items of a write set
pub chain_items : (is : List Item) (b : Option Item) → IsChain IsItemAfter b is → (i : Item) → In i is → IsItem i
chain_items [] b h i q = absurd q
chain_items (x ∷ xs) b h i (inl e) = subst (λ y. IsItem y) e (after_item b x h.0)
chain_items (x ∷ xs) b h i (inr q) = chain_items xs (Some x) h.1 i q
