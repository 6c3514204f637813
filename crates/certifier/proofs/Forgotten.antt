-- Items whose last writers are forgotten.
use Rattle.std.proofs.Common.{◌≡◌, ℕ, zero, suc, ◌+◌, ◌<◌, ◌≤◌, ◌||◌, Bool, true, false, not, cond, Option, Some, None, List, [], ◌∷◌, length, get_or, drop, drop-cons, map, add-one, refl, sym, ap, subst, ◌∙◌, arith}
use Rattle.std.specs.Prelude.{if◌then◌else◌, IfSome, filter}
use Rattle.std.specs.Option.{IsSomeAnd}
use Rattle.std.specs.List.{AllByRecursion}
use Rattle.std.specs.List.Sorted.{IsStrictlySortedBy}
use Rattle.std.specs.Map.{keys_of, lookup}
use Rattle.std.specs.BTreeMap.{is_at}
use Rattle.std.specs.Global.{Vec}
use Rattle.std.specs.Ordering.{is_eq}
use Rattle.std.specs.declared.cmp.Ordering.TheVariants.{Less}
use Rattle.std.proofs.lemmas.Cmp.{eq_by_cmp_equiv}
use Rattle.std.proofs.lemmas.List.{drop_all}
use Rattle.std.proofs.lemmas.Map.Entries.{lookup-filter-values, option_filter}
use Rattle.std.proofs.lemmas.Map.Keys.{IsDistinct-from_sorted}
use Rattle.gr_ids.specs.declared.names.Gtid.{Gtid}
use Rattle.gr_ids.specs.Names.{gtid_eq}
use Rattle.gtid_sets.specs.declared.run.Run.{Run}
use Rattle.gtid_sets.specs.Canonical.{IsCanonical, IsRun}
use Rattle.gtid_sets.specs.Sets.{Gtids, has, in_run}
use Rattle.key_items.specs.declared.item.Item.{Item}
use Rattle.key_items.specs.Items.{item_eq, has_item}
use Rattle.key_items.proofs.Order.{item_cmp_total, item_eq_cmp, item_eq_same}
use Rattle.certifier.specs.declared.writer.Writer.{Writer}
use Rattle.certifier.specs.Forgetting.{Lacks, Takes, is_by, unless_by, unless_has, unless_in}
use Rattle.certifier.specs.Inside.{IsIndexed, IsNoted, gtid_cmp, item_cmp, kept_in}
use Rattle.certifier.proofs.GtidOrder.{gtid_eq_cmp, gtid_eq_itself, same_gtid}
use Rattle.certifier.proofs.ItemMaps.{dropped}
use Rattle.certifier.proofs.Noted.{Written}
use Rattle.certifier.proofs.SameEntries.{same_entries}
use Rattle.certifier.proofs.PuttingBack.{Entries, writer_at, item_eq_back}

-- ---- one item

abbrev pub dropped_at : Item → Gtid → Entries → Item → Option Writer
dropped_at x g es i = if is_eq (item_cmp x i) then unless_by g (writer_at es i) else writer_at es i

pub item_dropped : (es fs : Entries) (x : Item) (g : Gtid) → is_by g (writer_at es x) ≡ true → ((q : Item) → writer_at fs q ≡ cond (is_at (item_cmp x) q) None (writer_at es q))
    → (i : Item) → writer_at fs i ≡ dropped_at x g es i
item_dropped es fs x g b put i = go (is_eq (item_cmp x i)) refl (put i)
  where
    go : (u : Bool) → is_eq (item_cmp x i) ≡ u → writer_at fs i ≡ cond (is_at (item_cmp x) i) None (writer_at es i) → writer_at fs i ≡ dropped_at x g es i
    go true f p =
        let same : x ≡ i = item_eq_same x i (item_eq_cmp x i ∙ f) in
        let by : is_by g (writer_at es i) ≡ true = ap (λ j. is_by g (writer_at es j)) (sym same) ∙ b in
        p ∙ (ap (λ c. cond c None (writer_at es i)) f ∙ (sym (ap (λ c. if c then None else writer_at es i) by) ∙ sym (ap (λ c. if c then unless_by g (writer_at es i) else writer_at es i) f)))
    go false f p = p ∙ (ap (λ c. cond c None (writer_at es i)) f ∙ sym (ap (λ c. if c then unless_by g (writer_at es i) else writer_at es i) f))

pub item_stays : (es : Entries) (x : Item) (g : Gtid) → is_by g (writer_at es x) ≡ false → (i : Item) → writer_at es i ≡ dropped_at x g es i
item_stays es x g b i = go (is_eq (item_cmp x i)) refl
  where
    go : (u : Bool) → is_eq (item_cmp x i) ≡ u → writer_at es i ≡ dropped_at x g es i
    go true f =
        let same : x ≡ i = item_eq_same x i (item_eq_cmp x i ∙ f) in
        let by : is_by g (writer_at es i) ≡ false = ap (λ j. is_by g (writer_at es j)) (sym same) ∙ b in
        sym (ap (λ c. if c then None else writer_at es i) by) ∙ sym (ap (λ c. if c then unless_by g (writer_at es i) else writer_at es i) f)
    go false f = sym (ap (λ c. if c then unless_by g (writer_at es i) else writer_at es i) f)

-- ---- the items of one writer

twice : (g : Gtid) (o : Option Writer) → unless_by g (unless_by g o) ≡ unless_by g o
twice g o = go (is_by g o) refl
  where
    go : (u : Bool) → is_by g o ≡ u → unless_by g (unless_by g o) ≡ unless_by g o
    go true f = ap (unless_by g) (ap (λ c. if c then None else o) f) ∙ sym (ap (λ c. if c then None else o) f)
    go false f = ap (unless_by g) (ap (λ c. if c then None else o) f)

pub record Dropping (g : Gtid) (is : List Item) (es : Entries) (n : ℕ) (fs : Entries) : Type 0 where
  pub value : (i : Item) → (if has_item (drop n is) i then unless_by g (writer_at fs i) else writer_at fs i) ≡ (if has_item is i then unless_by g (writer_at es i) else writer_at es i)
  pub ordered : IsStrictlySortedBy item_cmp (keys_of es) → IsStrictlySortedBy item_cmp (keys_of fs)

pub dropping_begun : (g : Gtid) (is : List Item) (es : Entries) → Dropping g is es 0 es
dropping_begun g is es = record { value = λ i. refl; ordered = λ o. o }

pub dropping_next : (g : Gtid) (is : List Item) (es : Entries) (n : ℕ) (fs us : Entries) (x : Item) → n < length is → x ≡ get_or is n x → ((i : Item) → writer_at us i ≡ dropped_at x g fs i)
    → (IsStrictlySortedBy item_cmp (keys_of fs) → IsStrictlySortedBy item_cmp (keys_of us)) → Dropping g is es n fs → Dropping g is es (n + 1) us
dropping_next g is es n fs us x l e put o d = record { value = value; ordered = λ s. o (d.ordered s) }
  where
    at : drop n is ≡ x ∷ drop (n + 1) is
    at = rw (add-one) (drop-cons is n x l ∙ ap (λ y. y ∷ drop (suc n) is) (sym e))

    value : (i : Item) → (if has_item (drop (n + 1) is) i then unless_by g (writer_at us i) else writer_at us i) ≡ (if has_item is i then unless_by g (writer_at es i) else writer_at es i)
    value i = go (item_eq i x) refl (has_item (drop (n + 1) is) i) (put i) (ap (λ ys. if has_item ys i then unless_by g (writer_at fs i) else writer_at fs i) (sym at) ∙ d.value i)
      where
        go : (u : Bool) → item_eq i x ≡ u → (v : Bool) → writer_at us i ≡ dropped_at x g fs i
            → (if (item_eq i x || v) then unless_by g (writer_at fs i) else writer_at fs i) ≡ (if has_item is i then unless_by g (writer_at es i) else writer_at es i)
            → (if v then unless_by g (writer_at us i) else writer_at us i) ≡ (if has_item is i then unless_by g (writer_at es i) else writer_at es i)
        go true f v p q =
            let new : writer_at us i ≡ unless_by g (writer_at fs i) = p ∙ ap (λ c. if c then unless_by g (writer_at fs i) else writer_at fs i) (sym (item_eq_back x i) ∙ f) in
            let old : unless_by g (writer_at fs i) ≡ (if has_item is i then unless_by g (writer_at es i) else writer_at es i) = ap (λ c. if (c || v) then unless_by g (writer_at fs i) else writer_at fs i) (sym f) ∙ q in
            either v new ∙ old
          where
            either : (v : Bool) → writer_at us i ≡ unless_by g (writer_at fs i) → (if v then unless_by g (writer_at us i) else writer_at us i) ≡ unless_by g (writer_at fs i)
            either true new = ap (unless_by g) new ∙ twice g (writer_at fs i)
            either false new = new
        go false f v p q =
            let new : writer_at us i ≡ writer_at fs i = p ∙ ap (λ c. if c then unless_by g (writer_at fs i) else writer_at fs i) (sym (item_eq_back x i) ∙ f) in
            let old : (if v then unless_by g (writer_at fs i) else writer_at fs i) ≡ (if has_item is i then unless_by g (writer_at es i) else writer_at es i) = ap (λ c. if (c || v) then unless_by g (writer_at fs i) else writer_at fs i) (sym f) ∙ q in
            ap (λ o. if v then unless_by g o else o) new ∙ old

pub dropping_end : (g : Gtid) (is : List Item) (es : Entries) (n : ℕ) (fs : Entries) → length is ≤ n → Dropping g is es n fs → (i : Item) → writer_at fs i ≡ (if has_item is i then unless_by g (writer_at es i) else writer_at es i)
dropping_end g is es n fs l d i = ap (λ ys. if has_item ys i then unless_by g (writer_at fs i) else writer_at fs i) (sym (drop_all n is l)) ∙ d.value i

-- ---- the writers in a run

pub record Emptying (r : Run) (es fs : Entries) (ws : Written) : Type 0 where
  pub whole : (i : Item) → unless_in r (writer_at fs i) ≡ unless_in r (writer_at es i)
  pub indexed : IsIndexed fs ws

pub emptying_begun : (r : Run) (es : Entries) (ws : Written) → IsIndexed es ws → Emptying r es es ws
emptying_begun r es ws x = record { whole = λ i. refl; indexed = x }

in_and_by : (r : Run) (g : Gtid) (o : Option Writer) → in_run g r ≡ true → unless_in r (unless_by g o) ≡ unless_in r o
in_and_by r g None h = refl
in_and_by r g (Some w) h = go (gtid_eq w.gtid g) refl
  where
    go : (u : Bool) → gtid_eq w.gtid g ≡ u → unless_in r (unless_by g (Some w)) ≡ unless_in r (Some w)
    go true f =
        let inside : in_run w.gtid r ≡ true = ap (λ q. in_run q r) (same_gtid w.gtid g f) ∙ h in
        ap (λ c. unless_in r (if c then None else Some w)) f ∙ sym (ap (λ c. if c then None else Some w) inside)
    go false f = ap (λ c. unless_in r (if c then None else Some w)) f

apart : (a b : Gtid) → gtid_eq a b ≡ false → is_eq (gtid_cmp b a) ≡ false
apart a b e = go (is_eq (gtid_cmp b a)) refl
  where
    go : (u : Bool) → is_eq (gtid_cmp b a) ≡ u → is_eq (gtid_cmp b a) ≡ false
    go true f = let same : b ≡ a = same_gtid b a (gtid_eq_cmp b a ∙ f) in absurd (let z : gtid_eq a b ≡ true = ap (gtid_eq a) same ∙ gtid_eq_itself a in cc)
    go false f = f

pub emptying_next : (r : Run) (es fs us : Entries) (ws vs : Written) (g : Gtid) (v : Vec Item) → Takes ws vs r g v
    → ((i : Item) → writer_at us i ≡ (if has_item v.items i then unless_by g (writer_at fs i) else writer_at fs i))
    → IsStrictlySortedBy item_cmp (keys_of us) → Emptying r es fs ws → Emptying r es us vs
emptying_next r es fs us ws vs g v t put o m = record { whole = whole; indexed = record { ordered = o; noted = noted } }
  where
    whole : (i : Item) → unless_in r (writer_at us i) ≡ unless_in r (writer_at es i)
    whole i = ap (unless_in r) (put i) ∙ (either (has_item v.items i) ∙ m.whole i)
      where
        either : (u : Bool) → unless_in r (if u then unless_by g (writer_at fs i) else writer_at fs i) ≡ unless_in r (writer_at fs i)
        either true = in_and_by r g (writer_at fs i) t.inside
        either false = refl

    still : (i : Item) (w : Writer) → IsNoted ws w.gtid i → (u : Bool) → (u ≡ has_item v.items i) → IfSome (if u then unless_by g (Some w) else Some w) (λ x. IsNoted vs x.gtid i)
    still i w n u e = go (gtid_eq w.gtid g) refl
      where
        go : (y : Bool) → gtid_eq w.gtid g ≡ y → IfSome (if u then unless_by g (Some w) else Some w) (λ x. IsNoted vs x.gtid i)
        go true f =
            let there : lookup (is_at (gtid_cmp w.gtid)) ws ≡ Some v = ap (λ q. lookup (is_at (gtid_cmp q)) ws) (same_gtid w.gtid g f) ∙ t.had in
            let own : has_item v.items i ≡ true = subst (λ (o : Option (Vec Item)). IsSomeAnd o (λ v. has_item v.items i ≡ true)) there n in
            let up : u ≡ true = e ∙ own in
            subst (λ (c : Bool). IfSome (if c then unless_by g (Some w) else Some w) (λ x. IsNoted vs x.gtid i)) (sym up) (subst (λ (c : Bool). IfSome (if c then None else Some w) (λ x. IsNoted vs x.gtid i)) (sym f) tt)
        go false f =
            let left : lookup (is_at (gtid_cmp w.gtid)) vs ≡ lookup (is_at (gtid_cmp w.gtid)) ws = t.left w.gtid ∙ ap (λ c. cond c None (lookup (is_at (gtid_cmp w.gtid)) ws)) (apart w.gtid g f) in
            let here : IsNoted vs w.gtid i = subst (λ (o : Option (Vec Item)). IsSomeAnd o (λ v. has_item v.items i ≡ true)) (sym left) n in
            subst (λ (c : Bool). IfSome (if u then (if c then None else Some w) else Some w) (λ x. IsNoted vs x.gtid i)) (sym f) (either u here)
          where
            either : (c : Bool) → IsNoted vs w.gtid i → IfSome (if c then Some w else Some w) (λ x. IsNoted vs x.gtid i)
            either true h = h
            either false h = h

    noted : (i : Item) → IfSome (writer_at us i) (λ w. IsNoted vs w.gtid i)
    noted i = subst (λ (o : Option Writer). IfSome o (λ w. IsNoted vs w.gtid i)) (sym (put i)) (go (writer_at fs i) (m.indexed.noted i))
      where
        nothing : (u : Bool) → IfSome (if u then unless_by g None else None) (λ w. IsNoted vs w.gtid i)
        nothing true = tt
        nothing false = tt

        go : (o : Option Writer) → IfSome o (λ w. IsNoted ws w.gtid i) → IfSome (if has_item v.items i then unless_by g o else o) (λ w. IsNoted vs w.gtid i)
        go None n = nothing (has_item v.items i)
        go (Some w) n = still i w n (has_item v.items i) refl

pub emptying_end : (r : Run) (es fs : Entries) (ws : Written) → Lacks ws r → Emptying r es fs ws → (i : Item) → writer_at fs i ≡ unless_in r (writer_at es i)
emptying_end r es fs ws none m i = outside (writer_at fs i) (m.indexed.noted i) ∙ m.whole i
  where
    outside : (o : Option Writer) → IfSome o (λ w. IsNoted ws w.gtid i) → o ≡ unless_in r o
    outside None n = refl
    outside (Some w) n = go (in_run w.gtid r) refl
      where
        go : (u : Bool) → in_run w.gtid r ≡ u → Some w ≡ unless_in r (Some w)
        go true f = absurd (subst (λ (o : Option (Vec Item)). IsSomeAnd o (λ v. has_item v.items i ≡ true)) (none w.gtid f) n)
        go false f = sym (ap (λ c. if c then None else Some w) f)

-- ---- the runs of a set

pub record Shedding (s : Gtids) (es : Entries) (n : ℕ) (fs : Entries) (ws : Written) : Type 0 where
  pub whole : (i : Item) → unless_has (drop n s) (writer_at fs i) ≡ unless_has s (writer_at es i)
  pub indexed : IsIndexed fs ws

pub shedding_begun : (s : Gtids) (es : Entries) (ws : Written) → IsIndexed es ws → Shedding s es 0 es ws
shedding_begun s es ws x = record { whole = λ i. refl; indexed = x }

one_run : (r : Run) (rs : Gtids) (o : Option Writer) → unless_has rs (unless_in r o) ≡ unless_has (r ∷ rs) o
one_run r rs None = refl
one_run r rs (Some w) = go (in_run w.gtid r) refl
  where
    go : (u : Bool) → in_run w.gtid r ≡ u → unless_has rs (unless_in r (Some w)) ≡ unless_has (r ∷ rs) (Some w)
    go true f = ap (λ c. unless_has rs (if c then None else Some w)) f ∙ sym (ap (λ c. if (c || has rs w.gtid) then None else Some w) f)
    go false f = ap (λ c. unless_has rs (if c then None else Some w)) f ∙ sym (ap (λ c. if (c || has rs w.gtid) then None else Some w) f)

pub shedding_next : (s : Gtids) (es : Entries) (n : ℕ) (fs us : Entries) (ws vs : Written) (d : Run) → n < length s → ((i : Item) → writer_at us i ≡ unless_in (get_or s n d) (writer_at fs i))
    → IsIndexed us vs → Shedding s es n fs ws → Shedding s es (n + 1) us vs
shedding_next s es n fs us ws vs d l put x m = record { whole = whole; indexed = x }
  where
    at : drop n s ≡ get_or s n d ∷ drop (n + 1) s
    at = rw (add-one) (drop-cons s n d l)

    whole : (i : Item) → unless_has (drop (n + 1) s) (writer_at us i) ≡ unless_has s (writer_at es i)
    whole i = ap (unless_has (drop (n + 1) s)) (put i) ∙ (one_run (get_or s n d) (drop (n + 1) s) (writer_at fs i) ∙ (ap (λ t. unless_has t (writer_at fs i)) (sym at) ∙ m.whole i))

has_none : (o : Option Writer) → unless_has [] o ≡ o
has_none None = refl
has_none (Some w) = refl

sorted_filter : (p : Item × Writer → Bool) (es : Entries) → IsStrictlySortedBy item_cmp (keys_of es) → IsStrictlySortedBy item_cmp (keys_of (filter p es))
unfolding IsStrictlySortedBy
sorted_filter p [] o = tt
sorted_filter p (e ∷ es) o = go (p e) refl (sorted_filter p es o.1)
  where
    above : (xs : Entries) → AllByRecursion (λ y. item_cmp e.0 y ≡ Less) (keys_of xs) → AllByRecursion (λ y. item_cmp e.0 y ≡ Less) (keys_of (filter p xs))
    above [] h = tt
    above (x ∷ xs) h = either (p x) refl (above xs h.1)
      where
        either : (u : Bool) → p x ≡ u → AllByRecursion (λ y. item_cmp e.0 y ≡ Less) (keys_of (filter p xs)) → AllByRecursion (λ y. item_cmp e.0 y ≡ Less) (keys_of (filter p (x ∷ xs)))
        either true f r = rw f (h.0, r)
        either false f r = rw f r

    go : (u : Bool) → p e ≡ u → IsStrictlySortedBy item_cmp (keys_of (filter p es)) → IsStrictlySortedBy item_cmp (keys_of (filter p (e ∷ es)))
    go true f r = rw f (above es o.0, r)
    go false f r = rw f r

pub shedding_end : (s : Gtids) (was now : Entries) (n : ℕ) (ws : Written) → length s ≤ n → IsStrictlySortedBy item_cmp (keys_of was) → Shedding s was n now ws
    → map kept_in now ≡ filter (λ k. not (has s k.gtid)) (map kept_in was)
shedding_end s was now n ws l o m = ap (map kept_in) same ∙ dropped s was
  where
    passes : Writer → Bool
    passes w = not (has s w.gtid)

    by_test : (o : Option Writer) → unless_has s o ≡ option_filter passes o
    by_test None = refl
    by_test (Some w) = go (has s w.gtid) refl
      where
        go : (u : Bool) → has s w.gtid ≡ u → unless_has s (Some w) ≡ option_filter passes (Some w)
        go true f = rw f refl
        go false f = rw f refl

    at : (i : Item) → writer_at now i ≡ writer_at (filter (λ e. passes e.1) was) i
    at i =
        sym (has_none (writer_at now i)) ∙ (ap (λ t. unless_has t (writer_at now i)) (sym (drop_all n s l)) ∙ (m.whole i ∙ (by_test (writer_at was i)
        ∙ sym (lookup-filter-values (eq_by_cmp_equiv item_cmp_total) passes i was (IsDistinct-from_sorted item_cmp (keys_of was) o)))))

    same : now ≡ filter (λ e. passes e.1) was
    same = same_entries now (filter (λ e. passes e.1) was) m.indexed.ordered (sorted_filter (λ e. passes e.1) was o) at

pub run_at : (s : Gtids) (n : ℕ) (d : Run) → IsCanonical s → n < length s → IsRun (get_or s n d)
run_at [] n d h l = absurd (omega arith)
run_at (r ∷ rs) zero d h l = h.0
run_at (r ∷ rs) (suc n) d h l = run_at rs n d h.2 (omega arith)
