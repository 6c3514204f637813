-- A transaction whose body isn't too long has a spelling.
use Rattle.std.proofs.Common.{◌≡◌, ℕ, ◌≤◌, ◌-◌, ◌^◌, min, Bool, true, false, ◌||◌, Some, None, List, [], ◌∷◌, length, refl, sym, ap, ◌∙◌, arith}
use Rattle.std.specs.Prelude.{◌&&◌, ◌==◌, nat_lt}
use Rattle.std.specs.List.{AllByRecursion}
use Rattle.std.proofs.lemmas.Bool.{le-ltb, true≢false}
use Rattle.byte_forms.specs.Lists.{IsChain}
use Rattle.key_items.specs.declared.item.Item.{Item}
use Rattle.key_items.specs.Items.{Ascend, ascend, item_eq, item_lt, has_item, with_item}
use Rattle.key_items.specs.Spelling.{IsItem, IsItemAfter}
use Rattle.key_items.specs.declared.change.Change.{Change}
use Rattle.key_items.specs.declared.change.ChangeKind.{ChangeKind}
use Rattle.key_items.specs.declared.change.ChangeKind.TheVariants.{Insert as Inserts, Update as Updates, Delete as Deletes}
use Rattle.key_items.proofs.Order.{item_eq_itself}
use Rattle.gtid_sets.specs.Canonical.{IsCanonical}
use Rattle.txn_forms.specs.declared.body.Txn.{Txn}
use Rattle.txn_forms.specs.declared.body.Body.TheVariants.{Txn as Writes}
use Rattle.txn_forms.specs.Bodies.{IsTxn, body_bytes}
use Rattle.txn_forms.specs.Changes.{IsChange, IsKind, last_u32}
use Rattle.group_rules.specs.Calls.{items_of}
use Rattle.local_sessions.specs.Changing.{AreOfItems}
use Rattle.local_sessions.specs.declared.tables.Tables.{Tables}
use Rattle.local_sessions.specs.declared.commit_step.CommitStep.TheVariants.{Ready}
use Rattle.local_sessions.specs.Standing.{Session}
use Rattle.local_sessions.specs.Replies.{Asks, commit_bytes, commit_changes, is_read_only, txn_of}
use Rattle.local_sessions.specs.Sizes.{items_size, changes_size, kind_size}
use Rattle.local_sessions.proofs.Lengths.{body_is}

-- ---- the items

abbrev AllItems : List Item → Type 0
AllItems is = AllByRecursion IsItem is

with_all : (is : List Item) (i : Item) → AllItems is → IsItem i → AllItems (with_item is i)
with_all [] i a h = (h, tt)
with_all (x ∷ xs) i a h = go (item_lt i x) (item_eq i x) refl refl (with_all xs i a.1 h)
  where
    go : (b e : Bool) → item_lt i x ≡ b → item_eq i x ≡ e → AllItems (with_item xs i) → AllItems (with_item (x ∷ xs) i)
    go true e f g r = rw f (h, a)
    go false true f g r = rw (f, g) a
    go false false f g r = rw (f, g) (a.0, r)

items_all : (cs : List Change) → AreOfItems cs → AllItems (items_of cs)
items_all [] a = tt
items_all (c ∷ cs) a = with_all (items_of cs) c.item (items_all cs a.1) a.0

pub has_more : (is : List Item) (i j : Item) → has_item is j ≡ true → has_item (with_item is i) j ≡ true
has_more [] i j h = absurd cc
has_more (x ∷ xs) i j h = go (item_lt i x) (item_eq i x) (item_eq j x) refl refl refl (has_more xs i j)
  where
    go : (b e d : Bool) → item_lt i x ≡ b → item_eq i x ≡ e → item_eq j x ≡ d → (has_item xs j ≡ true → has_item (with_item xs i) j ≡ true) → has_item (with_item (x ∷ xs) i) j ≡ true
    go true e d f g k r = rw f (second (item_eq j i) (has_item (x ∷ xs) j) h)
      where
        second : (p q : Bool) → q ≡ true → (p || q) ≡ true
        second true q n = refl
        second false q n = n
    go false true d f g k r = rw (f, g) h
    go false false true f g k r = rw (f, g, k) refl
    go false false false f g k r = let later : has_item xs j ≡ true = rw k at h in rw (f, g, k) (r later)

pub has_new : (is : List Item) (i : Item) → has_item (with_item is i) i ≡ true
has_new [] i = rw (item_eq_itself i) refl
has_new (x ∷ xs) i = go (item_lt i x) (item_eq i x) refl refl (has_new xs i)
  where
    go : (b e : Bool) → item_lt i x ≡ b → item_eq i x ≡ e → has_item (with_item xs i) i ≡ true → has_item (with_item (x ∷ xs) i) i ≡ true
    go true e f g r = rw (f, item_eq_itself i) refl
    go false true f g r = rw (f, g, g) refl
    go false false f g r = rw (f, g, g) r

split : (p q : Bool) → (p && q) ≡ true → (p ≡ true) × (q ≡ true)
split true q h = (refl, h)
split false q h = absurd (true≢false (sym h))

-- ascending items, each of its lengths, are a chain
chain_after : (b : Item) (is : List Item) → Ascend (b ∷ is) → AllItems is → IsChain IsItemAfter (Some b) is
chain_after b [] a h = tt
chain_after b (x ∷ xs) a h = let p = split (item_lt b x) (ascend (x ∷ xs)) a in ((h.0, p.0), chain_after x xs p.1 h.1)

chain : (is : List Item) → Ascend is → AllItems is → IsChain IsItemAfter None is
chain [] a h = tt
chain (x ∷ xs) a h = (h.0, chain_after x xs a h.1)

-- ---- the sizes

few_items : (is : List Item) → AllItems is → length is ≤ items_size is
few_items [] a = omega arith
few_items (i ∷ is) a = omega (arith, few_items is a.1)

few_changes : (cs : List Change) → length cs ≤ changes_size cs
few_changes [] = omega arith
few_changes (c ∷ cs) = omega (arith, few_changes cs)

short_row : (k : ChangeKind) → kind_size k ≤ last_u32 → IsKind k
short_row (Inserts row) h = omega (arith, h)
short_row (Updates row) h = omega (arith, h)
short_row Deletes h = tt

changes_in : (is : List Item) (cs : List Change) → ((j : Item) → has_item (items_of cs) j ≡ true → has_item is j ≡ true) → changes_size cs ≤ last_u32 → AllByRecursion (IsChange is) cs
changes_in is [] p h = tt
changes_in is (c ∷ cs) p h = (
  record {
    item = p c.item (has_new (items_of cs) c.item);
    what = short_row c.what (omega (arith, h));
  },
  changes_in is cs (λ j k. p j (has_more (items_of cs) c.item j k)) (omega (arith, h)),
)

-- what is at most the largest body is a transaction with a spelling
pub is_txn : (t : Txn) (c : Change) (cs : List Change) → t.changes ≡ c ∷ cs → t.items ≡ items_of t.changes → IsCanonical t.snapshot → Ascend t.items → AreOfItems t.changes
    → length (body_bytes (Writes t)) ≤ 16777216 → IsTxn t
is_txn t c cs e i k a o h =
    let size = body_is t k in
    let all : AllItems t.items = rw i (items_all t.changes o) in
    record {
      snapshot = k;
      items = chain t.items a all;
      few_items = omega (arith, few_items t.items all, size, h);
      changes = changes_in t.items t.changes (λ j n. rw i n) (omega (arith, size, h));
      some_changes = rw e (omega arith);
      few_changes = omega (arith, few_changes t.changes, size, h);
    }

-- ---- the bytes that are counted

pub fits : (n m : ℕ) → n ≡ min m (2 ^ 64 - 1) → n ≤ 16777216 → m ≤ 16777216
fits n m e h = omega (arith, e, h)

-- ---- what a commit comes to

fit_bytes : (b : List ℕ) → nat_lt 16777216 (length b) ≡ false → commit_bytes b ≡ record { answer = Ready b; deed = Asks }
fit_bytes b h = rw (commit_bytes, h) refl

pub sends : (at : Tables) (x : Session) (c : Change) (cs : List Change) → x.changes ≡ c ∷ cs → is_read_only at ≡ false → length (body_bytes (Writes (txn_of at x))) ≤ 16777216
    → commit_changes at x x.changes ≡ record { answer = Ready (body_bytes (Writes (txn_of at x))); deed = Asks }
sends at x c cs e r h = ap (commit_changes at x) e ∙ rw (commit_changes, r) (fit_bytes (body_bytes (Writes (txn_of at x))) (le-ltb 16777216 (length (body_bytes (Writes (txn_of at x)))) h))

pub some_change : (cs : List Change) → (length cs == 0) ≡ false → (c : Change) × ((ds : List Change) × (cs ≡ c ∷ ds))
some_change [] h = absurd cc
some_change (c ∷ cs) h = (c, (cs, refl))
