-- Chains that are copied, one item after another.
use Rattle.std.proofs.Common.{◌≡◌, suc, Bool, true, false, Option, Some, None, List, [], ◌∷◌, refl, sym, ap, ◌∙◌, cond, arith}
use Rattle.std.specs.List.{All}
use Rattle.std.proofs.lemmas.Bool.{false≢true}
use Rattle.std.specs.Ordering.{is_eq}
use Rattle.std.specs.Global.{Vec}
use Rattle.key_items.specs.declared.item.Item.{Item}
use Rattle.key_items.specs.Items.{item_eq}
use Rattle.key_items.proofs.Order.{item_cmp, item_eq_cmp, item_eq_same, item_eq_itself}
use Rattle.row_store.specs.Chains.{Version}
use Rattle.row_store.proofs.ChainReads.{Changes, Entries, at, kept, reads, versions_in}

-- the versions of an item: those that are copied, else those of what is left
abbrev pub copied_or : Option (Vec Version) → Entries → Item → List Version
copied_or None rest i = kept rest i
copied_or (Some v) rest i = v.items

-- what is left has the versions of the whole
abbrev pub AreOf : Entries → Entries → Type 0
AreOf all [] = Unit {0}
AreOf all (e ∷ es) = (kept all e.0 ≡ e.1.items) × AreOf all es

pub copied_one : (all es ds rest : Entries) (k : Item) (v w : Vec Version) → Changes es ds k (Some w) → w.items ≡ v.items → kept all k ≡ v.items
    → ((i : Item) → copied_or (at es i) ((k, v) ∷ rest) i ≡ kept all i) → (i : Item) → copied_or (at ds i) rest i ≡ kept all i
copied_one all es ds rest k v w h same is before i = ap (λ o. copied_or o rest i) (h i) ∙ go (is_eq (item_cmp k i)) refl
  where
    go : (b : Bool) → is_eq (item_cmp k i) ≡ b → copied_or (cond (is_eq (item_cmp k i)) (Some w) (at es i)) rest i ≡ kept all i
    go true f =
        let e : item_eq k i ≡ true = item_eq_cmp k i ∙ f in
        rw f (same ∙ (sym is ∙ ap (kept all) (item_eq_same k i e)))
    go false f = rw f (rest_of (at es i) refl)
      where
        other : (b : Bool) → item_eq i k ≡ b → item_eq i k ≡ false
        other true t = absurd (false≢true (sym (item_eq_cmp k i ∙ f) ∙ (ap (item_eq k) (item_eq_same i k t) ∙ item_eq_itself k)))
        other false t = t

        rest_of : (o : Option (Vec Version)) → at es i ≡ o → copied_or o rest i ≡ kept all i
        rest_of None n = let u = other (item_eq i k) refl in (rw u refl) ∙ (ap (λ x. copied_or x ((k, v) ∷ rest) i) (sym n) ∙ before i)
        rest_of (Some x) n = ap (λ y. copied_or y ((k, v) ∷ rest) i) (sym n) ∙ before i

pub copied_all : (all es : Entries) → ((i : Item) → copied_or (at es i) [] i ≡ kept all i) → (i : Item) → kept es i ≡ kept all i
copied_all all es h i = reads es i ∙ (go (at es i) ∙ h i)
  where
    go : (o : Option (Vec Version)) → versions_in o ≡ copied_or o [] i
    go None = refl
    go (Some v) = refl

pub all_of : (all es : Entries) → All (λ (e : Item × Vec Version). at all e.0 ≡ Some e.1) es → AreOf all es
all_of all [] h = tt
all_of all (e ∷ es) h = (reads all e.0 ∙ ap versions_in (h 0 e (omega arith)), all_of all es (λ k d m. h (suc k) d (omega (arith, m))))
