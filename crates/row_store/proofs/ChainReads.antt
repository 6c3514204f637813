-- The chains, read from their map.
use Rattle.std.proofs.Common.{◌≡◌, ℕ, ◌-◌, ◌<◌, ◌≤◌, Bool, true, false, cond, ◌||◌, Option, Some, None, List, [], ◌∷◌, map, length, refl, sym, ap, ◌∙◌, arith}
use Rattle.std.specs.Prelude.{if◌then◌else◌, vec_capacity, nat_lt}
use Rattle.std.proofs.lemmas.Bool.{ltb-true, true≢false}
use Rattle.std.specs.Ordering.{is_eq}
use Rattle.std.specs.Map.{lookup}
use Rattle.std.specs.BTreeMap.{is_at}
use Rattle.std.specs.Global.{Vec}
use Rattle.key_items.specs.declared.item.Item.{Item}
use Rattle.key_items.specs.Items.{item_eq}
use Rattle.key_items.proofs.Order.{item_cmp, item_eq_cmp, item_eq_same, item_eq_itself}
use Rattle.gr_ids.specs.declared.names.Gtid.{Gtid}
use Rattle.gtid_sets.specs.Sets.{Gtids, has}
use Rattle.key_items.specs.declared.change.Change.{Change}
use Rattle.group_rules.specs.Rows.{row_after, changed_row}
use Rattle.row_store.specs.Chains.{Version, versions_of, spare_of, seen_in, last_row, row_at, row_now, row_with}
use Rattle.row_store.specs.Inside.{chain_of, is_newest, is_ready}

abbrev pub Entries : Type 0
Entries = List (Item × Vec Version)

abbrev pub at : Entries → Item → Option (Vec Version)
at es i = lookup (is_at (item_cmp i)) es

abbrev pub versions_in : Option (Vec Version) → List Version
versions_in None = []
versions_in (Some v) = v.items

abbrev pub spare_in : Option (Vec Version) → ℕ
spare_in None = 0
spare_in (Some v) = vec_capacity v - length v.items

-- the versions, and the room, in a map with these entries
abbrev pub kept : Entries → Item → List Version
kept es i = versions_of (map chain_of es) i

abbrev pub spare : Entries → Item → ℕ
spare es i = spare_of (map chain_of es) i

pub reads : (es : Entries) (i : Item) → kept es i ≡ versions_in (at es i)
reads [] i = refl
reads (e ∷ es) i = go (is_eq (item_cmp i e.0)) refl (reads es i)
  where
    go : (b : Bool) → is_eq (item_cmp i e.0) ≡ b → kept es i ≡ versions_in (at es i) → kept (e ∷ es) i ≡ versions_in (at (e ∷ es) i)
    go true f r = let u : item_eq i e.0 ≡ true = item_eq_cmp i e.0 ∙ f in rw (u, f) refl
    go false f r = let u : item_eq i e.0 ≡ false = item_eq_cmp i e.0 ∙ f in rw (u, f) r

pub spares : (es : Entries) (i : Item) → spare es i ≡ spare_in (at es i)
spares [] i = refl
spares (e ∷ es) i = go (is_eq (item_cmp i e.0)) refl (spares es i)
  where
    go : (b : Bool) → is_eq (item_cmp i e.0) ≡ b → spare es i ≡ spare_in (at es i) → spare (e ∷ es) i ≡ spare_in (at (e ∷ es) i)
    go true f r = let u : item_eq i e.0 ≡ true = item_eq_cmp i e.0 ∙ f in rw (u, f) refl
    go false f r = let u : item_eq i e.0 ≡ false = item_eq_cmp i e.0 ∙ f in rw (u, f) r

-- one chain is changed
abbrev pub Changes : Entries → Entries → Item → Option (Vec Version) → Type 0
Changes es ds k w = (q : Item) → at ds q ≡ cond (is_eq (item_cmp k q)) w (at es q)

pub changed : (es ds : Entries) (k : Item) (w : Option (Vec Version)) → Changes es ds k w → (i : Item) → kept ds i ≡ (if item_eq k i then versions_in w else kept es i)
changed es ds k w h i = reads ds i ∙ (ap versions_in (h i) ∙ go (is_eq (item_cmp k i)) refl)
  where
    go : (b : Bool) → is_eq (item_cmp k i) ≡ b → versions_in (cond (is_eq (item_cmp k i)) w (at es i)) ≡ (if item_eq k i then versions_in w else kept es i)
    go true f = let u : item_eq k i ≡ true = item_eq_cmp k i ∙ f in rw (u, f) refl
    go false f = let u : item_eq k i ≡ false = item_eq_cmp k i ∙ f in rw (u, f) (sym (reads es i))

pub spare_changed : (es ds : Entries) (k : Item) (w : Option (Vec Version)) → Changes es ds k w → (i : Item) → spare ds i ≡ (if item_eq k i then spare_in w else spare es i)
spare_changed es ds k w h i = spares ds i ∙ (ap spare_in (h i) ∙ go (is_eq (item_cmp k i)) refl)
  where
    go : (b : Bool) → is_eq (item_cmp k i) ≡ b → spare_in (cond (is_eq (item_cmp k i)) w (at es i)) ≡ (if item_eq k i then spare_in w else spare es i)
    go true f = let u : item_eq k i ≡ true = item_eq_cmp k i ∙ f in rw (u, f) refl
    go false f = let u : item_eq k i ≡ false = item_eq_cmp k i ∙ f in rw (u, f) (sym (spares es i))

-- the versions at the key are what they were
pub same_versions : (es ds : Entries) (k : Item) (w : Option (Vec Version)) → Changes es ds k w → versions_in w ≡ versions_in (at es k) → (i : Item) → kept ds i ≡ kept es i
same_versions es ds k w h m i = changed es ds k w h i ∙ go (item_eq k i) refl
  where
    go : (b : Bool) → item_eq k i ≡ b → (if item_eq k i then versions_in w else kept es i) ≡ kept es i
    go true f = rw f (m ∙ (ap (λ j. versions_in (at es j)) (item_eq_same k i f) ∙ sym (reads es i)))
    go false f = rw f refl

pub more_spare : (es ds : Entries) (k : Item) (w : Option (Vec Version)) → Changes es ds k w → spare_in (at es k) ≤ spare_in w → (i : Item) → spare es i ≤ spare ds i
more_spare es ds k w h m i = go (item_eq k i) refl
  where
    go : (b : Bool) → item_eq k i ≡ b → spare es i ≤ spare ds i
    go true f =
        let now : spare ds i ≡ spare_in w = spare_changed es ds k w h i ∙ (rw f refl) in
        let was : spare es i ≡ spare_in (at es k) = spares es i ∙ ap (λ j. spare_in (at es j)) (sym (item_eq_same k i f)) in
        omega arith
    go false f = let now : spare ds i ≡ spare es i = spare_changed es ds k w h i ∙ (rw f refl) in omega arith

pub spare_here : (es ds : Entries) (k : Item) (w : Option (Vec Version)) → Changes es ds k w → spare ds k ≡ spare_in w
spare_here es ds k w h = spare_changed es ds k w h k ∙ (rw (item_eq_itself k) refl)

-- ---- a version can be put

pub no_chain : (g : Gtid) (es : Entries) (k : Item) → at es k ≡ None → is_ready g (map chain_of es) k ≡ false
no_chain g es k n =
    let s : spare es k ≡ 0 = spares es k ∙ ap spare_in n in
    let v : kept es k ≡ [] = reads es k ∙ ap versions_in n in
    rw (s, v) refl

pub has_way : (g : Gtid) (es : Entries) (k : Item) (v : Vec Version) → at es k ≡ Some v → is_ready g (map chain_of es) k ≡ true → is_newest g v.items ≡ false → length v.items < vec_capacity v
has_way g es k v a r n = go (nat_lt 0 (vec_capacity v - length v.items)) refl
  where
    is : (nat_lt 0 (vec_capacity v - length v.items) || is_newest g v.items) ≡ true
    is = rw (ap spare_in (sym a) ∙ sym (spares es k), ap versions_in (sym a) ∙ sym (reads es k)) r

    go : (b : Bool) → nat_lt 0 (vec_capacity v - length v.items) ≡ b → length v.items < vec_capacity v
    go true f = let pos : 0 < vec_capacity v - length v.items = ltb-true 0 (vec_capacity v - length v.items) f in omega arith
    go false f = absurd (let z : false ≡ true = rw (f, n) at is in true≢false (sym z))

pub ready_with_room : (g : Gtid) (es : Entries) (i : Item) → nat_lt 0 (spare es i) ≡ true → is_ready g (map chain_of es) i ≡ true
ready_with_room g es i h = rw h refl

-- every one that could be put still can
pub ready_still : (g : Gtid) (es ds : Entries) (k : Item) (w : Vec Version) → Changes es ds k (Some w) → is_newest g w.items ≡ true → (i : Item) → is_ready g (map chain_of es) i ≡ true → is_ready g (map chain_of ds) i ≡ true
ready_still g es ds k w h n i r = go (item_eq k i) refl
  where
    or_true : (b : Bool) → (b || true) ≡ true
    or_true true = refl
    or_true false = refl

    go : (b : Bool) → item_eq k i ≡ b → is_ready g (map chain_of ds) i ≡ true
    go true f =
        let now : kept ds i ≡ w.items = changed es ds k (Some w) h i ∙ (rw f refl) in
        let newest : is_newest g (kept ds i) ≡ true = ap (is_newest g) now ∙ n in
        rw newest (or_true (nat_lt 0 (spare ds i)))
    go false f =
        let now : kept ds i ≡ kept es i = changed es ds k (Some w) h i ∙ (rw f refl) in
        let room : spare ds i ≡ spare es i = spare_changed es ds k (Some w) h i ∙ (rw f refl) in
        rw (now, room) r

-- ---- a version is put

pub put_seen : (g : Gtid) (e : Gtids) (es ds : Entries) (x : Change) (w : Vec Version) (r : Option (List ℕ)) → Changes es ds x.item (Some w) → r ≡ row_after x.what
    → seen_in e w.items ≡ (if has e g then r else seen_in e (versions_in (at es x.item))) → (i : Item) → row_at (map chain_of ds) i e ≡ row_with g (x ∷ []) e i (row_at (map chain_of es) i e)
put_seen g e es ds x w r h a s i = go (item_eq x.item i) refl (has e g) refl
  where
    now : row_at (map chain_of ds) i e ≡ seen_in e (if item_eq x.item i then w.items else kept es i)
    now = ap (seen_in e) (changed es ds x.item (Some w) h i)

    go : (b : Bool) → item_eq x.item i ≡ b → (c : Bool) → has e g ≡ c → row_at (map chain_of ds) i e ≡ row_with g (x ∷ []) e i (row_at (map chain_of es) i e)
    go true f true q = now ∙ (rw (f, q, changed_row) (rw q at s ∙ a))
    go true f false q =
        let was : versions_in (at es x.item) ≡ kept es i = ap (λ j. versions_in (at es j)) (item_eq_same x.item i f) ∙ sym (reads es i) in
        now ∙ (rw (f, q, changed_row) (rw q at s ∙ ap (seen_in e) was))
    go false f true q = now ∙ (rw (f, q, changed_row) refl)
    go false f false q = now ∙ (rw (f, q, changed_row) refl)

pub put_last : (es ds : Entries) (x : Change) (w : Vec Version) → Changes es ds x.item (Some w) → last_row w.items ≡ row_after x.what → (i : Item) → row_now (map chain_of ds) i ≡ changed_row i (row_now (map chain_of es) i) (x ∷ [])
put_last es ds x w h a i = ap last_row (changed es ds x.item (Some w) h i) ∙ go (item_eq x.item i) refl
  where
    go : (b : Bool) → item_eq x.item i ≡ b → last_row (if item_eq x.item i then w.items else kept es i) ≡ changed_row i (row_now (map chain_of es) i) (x ∷ [])
    go true f = rw (f, changed_row) a
    go false f = rw (f, changed_row) refl
