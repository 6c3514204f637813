-- The kept items in a map by item.
use Rattle.std.proofs.Common.{◌≡◌, Bool, true, false, not, List, [], ◌∷◌, map, refl, sym, ap, ◌∙◌}
use Rattle.std.specs.Prelude.{filter}
use Rattle.std.specs.Ordering.{is_eq, is_lt}
use Rattle.std.specs.declared.cmp.Ordering.{Ordering}
use Rattle.std.specs.declared.cmp.Ordering.TheVariants.{Less, Equal, Greater}
use Rattle.std.specs.BTreeMap.{insert_entry}
use Rattle.gtid_sets.specs.Sets.{Gtids, has}
use Rattle.key_items.specs.declared.item.Item.{Item}
use Rattle.key_items.specs.Items.{item_eq, item_lt}
use Rattle.key_items.proofs.Order.{item_lt_cmp, item_eq_cmp, item_eq_same}
use Rattle.group_rules.specs.Certifier.{with_kept}
use Rattle.certifier.specs.declared.writer.Writer.{Writer}
use Rattle.certifier.specs.Inside.{item_cmp, kept_in}

abbrev pub Entries : Type 0
Entries = List (Item × Writer)

pub inserted : (es : Entries) (i : Item) (w : Writer) → map kept_in (insert_entry item_cmp es i w) ≡ with_kept (map kept_in es) (kept_in (i, w))
inserted [] i w = refl
inserted (e ∷ es) i w = go (item_cmp i e.0) refl (inserted es i w)
  where
    go : (o : Ordering) → item_cmp i e.0 ≡ o → map kept_in (insert_entry item_cmp es i w) ≡ with_kept (map kept_in es) (kept_in (i, w)) → map kept_in (insert_entry item_cmp (e ∷ es) i w) ≡ with_kept (map kept_in (e ∷ es)) (kept_in (i, w))
    go Less f r = let l : item_lt i e.0 ≡ true = item_lt_cmp i e.0 ∙ ap is_lt f in rw (l, with_kept, f) refl
    go Equal f r =
        let l : item_lt i e.0 ≡ false = item_lt_cmp i e.0 ∙ ap is_lt f in
        let u : item_eq i e.0 ≡ true = item_eq_cmp i e.0 ∙ ap is_eq f in
        rw (l, with_kept, u, f) (ap (λ k. kept_in (k, w) ∷ map kept_in es) (sym (item_eq_same i e.0 u)))
    go Greater f r =
        let l : item_lt i e.0 ≡ false = item_lt_cmp i e.0 ∙ ap is_lt f in
        let u : item_eq i e.0 ≡ false = item_eq_cmp i e.0 ∙ ap is_eq f in
        rw (l, with_kept, u, f) (ap (λ l. kept_in e ∷ l) r)

pub dropped : (s : Gtids) (es : Entries) → map kept_in (filter (λ e. not (has s e.1.gtid)) es) ≡ filter (λ k. not (has s k.gtid)) (map kept_in es)
dropped s [] = refl
dropped s (e ∷ es) = go (has s e.1.gtid) refl (dropped s es)
  where
    go : (b : Bool) → has s e.1.gtid ≡ b → map kept_in (filter (λ e. not (has s e.1.gtid)) es) ≡ filter (λ k. not (has s k.gtid)) (map kept_in es)
        → map kept_in (filter (λ e. not (has s e.1.gtid)) (e ∷ es)) ≡ filter (λ k. not (has s k.gtid)) (map kept_in (e ∷ es))
    go true f r = rw f r
    go false f r = rw f (ap (λ l. kept_in e ∷ l) r)
