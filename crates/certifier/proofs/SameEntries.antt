-- Two ascending lists of entries with the same writer for each item are one list.
use Rattle.std.proofs.Common.{◌≡◌, Bool, true, false, Some, None, [], ◌∷◌, refl, sym, ap, ◌∙◌}
use Rattle.std.specs.List.Sorted.{IsStrictlySortedBy}
use Rattle.std.specs.Map.{keys_of}
use Rattle.std.specs.Ordering.{is_eq, ordering_reverse}
use Rattle.std.specs.declared.cmp.Ordering.{Ordering}
use Rattle.std.specs.declared.cmp.Ordering.TheVariants.{Less, Equal, Greater}
use Rattle.std.proofs.lemmas.Cmp.{tied_itself}
use Rattle.std.proofs.lemmas.Map.Keys.{sorted_head, sorted_tail}
use Rattle.key_items.specs.declared.item.Item.{Item}
use Rattle.key_items.proofs.Order.{item_cmp_total, item_eq_cmp, item_eq_same}
use Rattle.certifier.specs.declared.writer.Writer.{Writer}
use Rattle.certifier.specs.Inside.{item_cmp}
use Rattle.certifier.proofs.FirstBlocker.{AreAbove, more_above, not_there}
use Rattle.certifier.proofs.PuttingBack.{Entries, writer_at}

own : (e : Item × Writer) (es : Entries) → writer_at (e ∷ es) e.0 ≡ Some e.1
own e es = rw (tied_itself item_cmp_total e.0) refl

-- where an item is below the first one, it isn't there
below_all : (i : Item) (f : Item × Writer) (fs : Entries) → item_cmp i f.0 ≡ Less → AreAbove f.0 fs → writer_at (f ∷ fs) i ≡ None
below_all i f fs c up = not_there i (f ∷ fs) (c, more_above i f.0 fs c up)

pub same_entries : (es fs : Entries) → IsStrictlySortedBy item_cmp (keys_of es) → IsStrictlySortedBy item_cmp (keys_of fs) → ((i : Item) → writer_at es i ≡ writer_at fs i) → es ≡ fs
same_entries [] [] o p h = refl
same_entries [] (f ∷ fs) o p h = absurd (let z : None ≡ Some f.1 = h f.0 ∙ own f fs in cc)
same_entries (e ∷ es) [] o p h = absurd (let z : Some e.1 ≡ None = sym (own e es) ∙ h e.0 in cc)
same_entries (e ∷ es) (f ∷ fs) o p h = go (item_cmp e.0 f.0) refl (same_entries es fs (sorted_tail item_cmp e.0 (keys_of es) o) (sorted_tail item_cmp f.0 (keys_of fs) p))
  where
    up : AreAbove e.0 es
    up = sorted_head item_cmp e.0 (keys_of es) o

    above : AreAbove f.0 fs
    above = sorted_head item_cmp f.0 (keys_of fs) p

    rest : e.0 ≡ f.0 → (i : Item) → (u : Bool) → is_eq (item_cmp i e.0) ≡ u → writer_at es i ≡ writer_at fs i
    rest s i true x =
        let same : i ≡ e.0 = item_eq_same i e.0 (item_eq_cmp i e.0 ∙ x) in
        ap (writer_at es) same ∙ (not_there e.0 es up ∙ (sym (not_there f.0 fs above) ∙ ap (writer_at fs) (sym (same ∙ s))))
    rest s i false x =
        let y : is_eq (item_cmp i f.0) ≡ false = ap (λ j. is_eq (item_cmp i j)) (sym s) ∙ x in
        let z : writer_at es i ≡ writer_at (f ∷ fs) i = rw x at (h i) in
        let t : writer_at es i ≡ writer_at fs i = rw y at z in
        t

    go : (c : Ordering) → item_cmp e.0 f.0 ≡ c → (((i : Item) → writer_at es i ≡ writer_at fs i) → es ≡ fs) → e ∷ es ≡ f ∷ fs
    go Less c r = absurd (let z : Some e.1 ≡ None = sym (own e es) ∙ (h e.0 ∙ below_all e.0 f fs c above) in cc)
    go Greater c r =
        let back : item_cmp f.0 e.0 ≡ Less = item_cmp_total.antisymm f.0 e.0 ∙ ap ordering_reverse c in
        absurd (let z : None ≡ Some f.1 = sym (below_all f.0 e es back up) ∙ (h f.0 ∙ own f fs) in cc)
    go Equal c r =
        let key : e.0 ≡ f.0 = item_eq_same e.0 f.0 (item_eq_cmp e.0 f.0 ∙ ap is_eq c) in
        let some : Some e.1 ≡ Some f.1 = sym (own e es) ∙ (h e.0 ∙ (ap (writer_at (f ∷ fs)) key ∙ own f fs)) in
        let value : e.1 ≡ f.1 = cc in
        let tail : es ≡ fs = r (λ i. rest key i (is_eq (item_cmp i e.0)) refl) in
        rw (key, value, tail) refl
