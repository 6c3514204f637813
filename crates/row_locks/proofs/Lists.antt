-- The keys that a session has locked, read from their map.
use Rattle.std.proofs.Common.{◌≡◌, ℕ, Bool, true, false, cond, ◌||◌, Option, Some, None, List, [], ◌∷◌, ◌++◌, map, refl, sym, ap, subst, ◌∙◌, arith}
use Rattle.std.specs.Prelude.{◌==◌, if◌then◌else◌}
use Rattle.std.specs.Ordering.{nat_cmp, is_eq}
use Rattle.std.specs.Map.{lookup}
use Rattle.std.specs.BTreeMap.{is_at}
use Rattle.std.specs.Global.{Vec}
use Rattle.std.specs.Cmp.{unsigned_ties}
use Rattle.std.proofs.lemmas.Bool.{eqb-true, eq-eqb, ne_eqb, true≢false}
use Rattle.key_items.specs.declared.item.Item.{Item}
use Rattle.key_items.specs.Items.{item_eq, has_item}
use Rattle.key_items.proofs.Order.{item_eq_itself, item_eq_same}
use Rattle.row_locks.specs.Locking.{session_at, without_session, locked_by}
use Rattle.row_locks.specs.Inside.{key_of, is_in, lists, AreListed}
use Rattle.row_locks.proofs.KeyReads.{Entries, held}

abbrev pub Listed : Type 0
Listed = List (ℕ × Vec Item)

abbrev pub list_at : Listed → ℕ → Option (Vec Item)
list_at es s = lookup (is_at (nat_cmp s)) es

pub has_more : (xs ys : List Item) (i : Item) → has_item xs i ≡ true → has_item (xs ++ ys) i ≡ true
has_more [] ys i h = absurd (true≢false (sym h))
has_more (x ∷ xs) ys i h = go (item_eq i x) refl (has_more xs ys i)
  where
    go : (b : Bool) → item_eq i x ≡ b → (has_item xs i ≡ true → has_item (xs ++ ys) i ≡ true) → has_item ((x ∷ xs) ++ ys) i ≡ true
    go true f r = rw f refl
    go false f r = rw f (r (rw f at h))

pub has_last : (xs : List Item) (i : Item) → has_item (xs ++ i ∷ []) i ≡ true
has_last [] i = rw (item_eq_itself i) refl
has_last (x ∷ xs) i = go (item_eq i x) refl (has_last xs i)
  where
    go : (b : Bool) → item_eq i x ≡ b → has_item (xs ++ i ∷ []) i ≡ true → has_item ((x ∷ xs) ++ i ∷ []) i ≡ true
    go true f r = rw f refl
    go false f r = rw f r

-- the list at a session is replaced by one that has as much
pub longer : (es ds : Listed) (k : ℕ) (w : Vec Item) → ((q : ℕ) → list_at ds q ≡ cond (is_eq (nat_cmp k q)) (Some w) (list_at es q)) → ((i : Item) → is_in (list_at es k) i ≡ true → has_item w.items i ≡ true)
    → (s : ℕ) (i : Item) → lists es s i ≡ true → lists ds s i ≡ true
longer es ds k w h m s i l = ap (λ o. is_in o i) (h s) ∙ go (is_eq (nat_cmp k s)) refl
  where
    go : (b : Bool) → is_eq (nat_cmp k s) ≡ b → is_in (cond (is_eq (nat_cmp k s)) (Some w) (list_at es s)) i ≡ true
    go true f =
        let same : k ≡ s = eqb-true k s (unsigned_ties k s ∙ f) in
        rw f (m i (subst (λ q. lists es q i ≡ true) (sym same) l))
    go false f = rw f l

-- the list at a session has this key
pub now_listed : (es ds : Listed) (k : ℕ) (w : Vec Item) (i : Item) → ((q : ℕ) → list_at ds q ≡ cond (is_eq (nat_cmp k q)) (Some w) (list_at es q)) → has_item w.items i ≡ true → lists ds k i ≡ true
now_listed es ds k w i h m =
    let same : is_eq (nat_cmp k k) ≡ true = sym (unsigned_ties k k) ∙ eq-eqb k k refl in
    ap (λ o. is_in o i) (h k) ∙ rw same m

-- the session leaves all its keys, and its list goes
pub listed_still : (es ds : Entries) (ls ms : Listed) (k : ℕ) → AreListed es ls → ((q : ℕ) → list_at ms q ≡ cond (is_eq (nat_cmp k q)) None (list_at ls q)) → ((j : Item) → held ds j ≡ without_session k (held es j)) → AreListed ds ms
listed_still es ds ls ms k a h g s i e = go (held es i) refl (sym (g i) ∙ e)
  where
    go : (o : Option ℕ) → held es i ≡ o → without_session k (held es i) ≡ Some s → lists ms s i ≡ true
    go None f u = absurd (let z : None ≡ Some s = rw f at u in cc)
    go (Some t) f u = by_session (t == k) refl
      where
        by_session : (b : Bool) → (t == k) ≡ b → lists ms s i ≡ true
        by_session true q = absurd (let z : None ≡ Some s = rw q at (rw f at u) in cc)
        by_session false q =
            let z : Some t ≡ Some s = rw q at (rw f at u) in
            let same : t ≡ s = cc in
            let there : lists ls s i ≡ true = a s i (f ∙ z) in
            let other : is_eq (nat_cmp k s) ≡ false = sym (unsigned_ties k s) ∙ ne_eqb k s (λ p. true≢false (sym (eq-eqb t k (same ∙ sym p)) ∙ q)) in
            ap (λ o. is_in o i) (h s) ∙ rw other there

-- the session gets a key that its list has
pub listed_with : (es ds : Entries) (ls ms : Listed) (k : ℕ) (x : Item) → AreListed es ls → ((s : ℕ) (i : Item) → lists ls s i ≡ true → lists ms s i ≡ true) → lists ms k x ≡ true
    → ((j : Item) → held ds j ≡ (if item_eq x j then Some k else held es j)) → AreListed ds ms
listed_with es ds ls ms k x a more here g s i e = go (item_eq x i) refl (sym (g i) ∙ e)
  where
    go : (b : Bool) → item_eq x i ≡ b → (if item_eq x i then Some k else held es i) ≡ Some s → lists ms s i ≡ true
    go true f u =
        let z : Some k ≡ Some s = rw f at u in
        let same : k ≡ s = cc in
        let is : x ≡ i = item_eq_same x i f in
        subst (λ q. lists ms q i ≡ true) same (subst (λ y. lists ms k y ≡ true) is here)
    go false f u = more s i (a s i (rw f at u))
