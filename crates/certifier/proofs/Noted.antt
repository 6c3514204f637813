-- What is noted for each writer.
use Rattle.std.proofs.Common.{◌≡◌, ◌||◌, Bool, true, false, cond, Option, Some, None, List, [], ◌∷◌, ◌++◌, Result, Ok, Err, refl, sym, ap, subst, ◌∙◌}
use Rattle.std.specs.Prelude.{if◌then◌else◌, IfSome, OnErr, OnOk}
use Rattle.std.specs.Option.{IsSomeAnd}
use Rattle.std.specs.Global.{Vec}
use Rattle.std.specs.List.Sorted.{IsStrictlySortedBy}
use Rattle.std.specs.Map.{keys_of, lookup}
use Rattle.std.specs.BTreeMap.{is_at}
use Rattle.std.specs.Ordering.{is_eq}
use Rattle.gr_ids.specs.declared.names.Gtid.{Gtid}
use Rattle.key_items.specs.declared.item.Item.{Item}
use Rattle.key_items.specs.Items.{item_eq, has_item}
use Rattle.key_items.proofs.Order.{item_eq_same, item_eq_cmp, item_eq_itself}
use Rattle.certifier.specs.declared.writer.Writer.{Writer}
use Rattle.certifier.specs.Inside.{IsIndexed, IsNoted, gtid_cmp, item_cmp}
use Rattle.certifier.proofs.GtidOrder.{same_gtid_cmp, gtid_eq_itself_cmp}
use Rattle.certifier.proofs.PuttingBack.{Entries, writer_at}
use Rattle.certifier.proofs.WritingItems.{has_last}

abbrev pub Written : Type 0
Written = List (Gtid × Vec Item)

abbrev pub Keeps : Written → Written → Type 0
Keeps ws vs = (g : Gtid) (i : Item) → IsNoted ws g i → IsNoted vs g i

abbrev pub noted_by : Option (Vec Item) → Item → Type 0
noted_by o i = IsSomeAnd o (λ v. has_item v.items i ≡ true)

has_more : (xs : List Item) (x i : Item) → has_item xs i ≡ true → has_item (xs ++ x ∷ []) i ≡ true
has_more xs x i h = has_last xs x i ∙ or_right (item_eq i x) (has_item xs i) h
  where
    or_right : (a b : Bool) → b ≡ true → (a || b) ≡ true
    or_right true b e = refl
    or_right false b e = e

has_new : (xs : List Item) (x : Item) → has_item (xs ++ x ∷ []) x ≡ true
has_new xs x = has_last xs x x ∙ (rw (item_eq_itself x) refl)

-- an item more for a writer that has some, or the first one
pub more_noted : (ws vs : Written) (k : Gtid) (v : Option (Vec Item)) (w : Vec Item) → lookup (is_at (gtid_cmp k)) ws ≡ v
    → ((i : Item) → noted_by v i → has_item w.items i ≡ true)
    → ((q : Gtid) → lookup (is_at (gtid_cmp q)) vs ≡ cond (is_at (gtid_cmp k) q) (Some w) (lookup (is_at (gtid_cmp q)) ws)) → Keeps ws vs
more_noted ws vs k v w had all put g i n = go (is_eq (gtid_cmp k g)) refl (put g)
  where
    go : (u : Bool) → is_eq (gtid_cmp k g) ≡ u → lookup (is_at (gtid_cmp g)) vs ≡ cond (is_at (gtid_cmp k) g) (Some w) (lookup (is_at (gtid_cmp g)) ws) → IsNoted vs g i
    go true f p =
        let same : k ≡ g = same_gtid_cmp k g f in
        let here : lookup (is_at (gtid_cmp g)) vs ≡ Some w = p ∙ ap (λ c. cond c (Some w) (lookup (is_at (gtid_cmp g)) ws)) f in
        let was : IsSomeAnd v (λ v. has_item v.items i ≡ true) = subst (λ (o : Option (Vec Item)). IsSomeAnd o (λ v. has_item v.items i ≡ true)) (ap (λ q. lookup (is_at (gtid_cmp q)) ws) (sym same) ∙ had) n in
        subst (λ (o : Option (Vec Item)). IsSomeAnd o (λ v. has_item v.items i ≡ true)) (sym here) (all i was)
    go false f p =
        let here : lookup (is_at (gtid_cmp g)) vs ≡ lookup (is_at (gtid_cmp g)) ws = p ∙ ap (λ c. cond c (Some w) (lookup (is_at (gtid_cmp g)) ws)) f in
        subst (λ (o : Option (Vec Item)). IsSomeAnd o (λ v. has_item v.items i ≡ true)) (sym here) n

-- the new one is noted
pub new_noted : (ws vs : Written) (k : Gtid) (w : Vec Item) (x : Item) → has_item w.items x ≡ true
    → ((q : Gtid) → lookup (is_at (gtid_cmp q)) vs ≡ cond (is_at (gtid_cmp k) q) (Some w) (lookup (is_at (gtid_cmp q)) ws)) → IsNoted vs k x
new_noted ws vs k w x h put =
    let here : lookup (is_at (gtid_cmp k)) vs ≡ Some w = put k ∙ ap (λ c. cond c (Some w) (lookup (is_at (gtid_cmp k)) ws)) (gtid_eq_itself_cmp k) in
    subst (λ (o : Option (Vec Item)). IsSomeAnd o (λ v. has_item v.items x ≡ true)) (sym here) h

-- ---- the index

if_some_more : (o : Option Writer) (P Q : Writer → Type 0) → ((w : Writer) → P w → Q w) → IfSome o P → IfSome o Q
if_some_more None P Q f h = tt
if_some_more (Some w) P Q f h = f w h

pub indexed_more : (es : Entries) (ws vs : Written) → IsIndexed es ws → Keeps ws vs → IsIndexed es vs
indexed_more es ws vs x k = record { ordered = x.ordered; noted = λ i. if_some_more (writer_at es i) (λ w. IsNoted ws w.gtid i) (λ w. IsNoted vs w.gtid i) (λ w. k w.gtid i) (x.noted i) }

-- some items have this last writer now, for which they are noted
pub indexed_with : (es fs : Entries) (ws : Written) (is : List Item) (w : Writer) → IsIndexed es ws → IsStrictlySortedBy item_cmp (keys_of fs)
    → ((i : Item) → has_item is i ≡ true → IsNoted ws w.gtid i)
    → ((i : Item) → writer_at fs i ≡ (if has_item is i then Some w else writer_at es i)) → IsIndexed fs ws
indexed_with es fs ws is w x o n put = record { ordered = o; noted = noted }
  where
    noted : (i : Item) → IfSome (writer_at fs i) (λ v. IsNoted ws v.gtid i)
    noted i = subst (λ (o : Option Writer). IfSome o (λ v. IsNoted ws v.gtid i)) (sym (put i)) (go (has_item is i) (n i))
      where
        go : (u : Bool) → (u ≡ true → IsNoted ws w.gtid i) → IfSome (if u then Some w else writer_at es i) (λ v. IsNoted ws v.gtid i)
        go true m = m refl
        go false m = x.noted i

-- the item has this last writer now, for which it is noted
pub indexed_put : (es fs : Entries) (ws : Written) (x : Item) (w : Writer) → IsIndexed es ws → IsStrictlySortedBy item_cmp (keys_of fs) → IsNoted ws w.gtid x
    → ((i : Item) → writer_at fs i ≡ cond (is_eq (item_cmp x i)) (Some w) (writer_at es i)) → IsIndexed fs ws
indexed_put es fs ws x w d o n put = record { ordered = o; noted = noted }
  where
    noted : (i : Item) → IfSome (writer_at fs i) (λ v. IsNoted ws v.gtid i)
    noted i = subst (λ (o : Option Writer). IfSome o (λ v. IsNoted ws v.gtid i)) (sym (put i)) (go (is_eq (item_cmp x i)) refl)
      where
        go : (u : Bool) → is_eq (item_cmp x i) ≡ u → IfSome (cond u (Some w) (writer_at es i)) (λ v. IsNoted ws v.gtid i)
        go true f = subst (λ (y : Item). IsNoted ws w.gtid y) (item_eq_same x i (item_eq_cmp x i ∙ f)) n
        go false f = d.noted i

-- what is left of a push
pub grown : {T E : Type 0} (r : Result T E) (xs ys : List Item) (x : Item) → OnOk r (ys ≡ xs ++ x ∷ []) → OnErr r (ys ≡ xs) → (i : Item) → has_item xs i ≡ true → has_item ys i ≡ true
grown (Ok t) xs ys x o e i h = ap (λ zs. has_item zs i) o ∙ has_more xs x i h
grown (Err t) xs ys x o e i h = ap (λ zs. has_item zs i) e ∙ h

pub pushed : (xs ys : List Item) (x y : Item) → x ≡ y → ys ≡ xs ++ x ∷ [] → has_item ys y ≡ true
pushed xs ys x y s e = ap (λ zs. has_item zs y) e ∙ (ap (λ z. has_item (xs ++ z ∷ []) y) s ∙ has_new xs y)
