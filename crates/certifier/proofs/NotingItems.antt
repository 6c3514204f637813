-- Items that are noted one after another.
use Rattle.std.proofs.Common.{◌≡◌, ℕ, ◌+◌, ◌<◌, ◌≤◌, ◌||◌, Bool, true, false, List, [], ◌∷◌, ◌++◌, length, get_or, take, add-one, refl, sym, ap, subst, ◌∙◌}
use Rattle.std.proofs.Math.Seq.{take-suc}
use Rattle.std.proofs.lemmas.List.{take_all}
use Rattle.gr_ids.specs.declared.names.Gtid.{Gtid}
use Rattle.key_items.specs.declared.item.Item.{Item}
use Rattle.key_items.specs.Items.{item_eq, has_item}
use Rattle.key_items.proofs.Order.{item_eq_same}
use Rattle.certifier.specs.Inside.{IsNoted}
use Rattle.certifier.proofs.Noted.{Keeps, Written}
use Rattle.certifier.proofs.WritingItems.{has_last}

-- the first n of these items are noted for the writer, and all that was is so too
pub record Noting (g : Gtid) (is : List Item) (ws : Written) (n : ℕ) (vs : Written) : Type 0 where
  pub keeps : Keeps ws vs
  pub noted : (i : Item) → has_item (take n is) i ≡ true → IsNoted vs g i

pub noting_begun : (g : Gtid) (is : List Item) (ws : Written) → Noting g is ws 0 ws
noting_begun g is ws = record { keeps = λ h i n. n; noted = λ i h. absurd (cc h) }

pub noting_next : (g : Gtid) (is : List Item) (ws : Written) (n : ℕ) (vs us : Written) (x : Item) → n < length is → x ≡ get_or is n x → Keeps vs us → IsNoted us g x → Noting g is ws n vs → Noting g is ws (n + 1) us
noting_next g is ws n vs us x l e k m h = record { keeps = λ q i o. k q i (h.keeps q i o); noted = noted }
  where
    front : take (n + 1) is ≡ take n is ++ x ∷ []
    front = rw (add-one) (take-suc is n x l ∙ ap (λ y. take n is ++ y ∷ []) (sym e))

    noted : (i : Item) → has_item (take (n + 1) is) i ≡ true → IsNoted us g i
    noted i p = go (item_eq i x) refl (sym (ap (λ ys. has_item ys i) front ∙ has_last (take n is) x i) ∙ p)
      where
        go : (u : Bool) → item_eq i x ≡ u → (item_eq i x || has_item (take n is) i) ≡ true → IsNoted us g i
        go true f q = subst (λ (y : Item). IsNoted us g y) (sym (item_eq_same i x f)) m
        go false f q = let r : has_item (take n is) i ≡ true = rw f at q in k g i (h.noted i r)

pub noting_end : (g : Gtid) (is : List Item) (ws : Written) (n : ℕ) (vs : Written) → length is ≤ n → Noting g is ws n vs → (i : Item) → has_item is i ≡ true → IsNoted vs g i
noting_end g is ws n vs l h i p = h.noted i (ap (λ ys. has_item ys i) (take_all n is l) ∙ p)
