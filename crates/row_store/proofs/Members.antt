-- What sets have, whatever their runs.
use Rattle.std.proofs.Common.{◌≡◌, ℕ, Bool, true, false, cond, ◌&&◌, ◌||◌, ◌⊎◌, inl, inr, List, [], ◌∷◌, refl, sym, ap, ◌∙◌, arith, ltb, leb}
use Rattle.std.specs.declared.cmp.Ordering.{Ordering}
use Rattle.std.specs.declared.cmp.Ordering.TheVariants.{Less, Equal, Greater}
use Rattle.std.specs.Ordering.{nat_cmp, is_eq, is_lt, ordering_reverse}
use Rattle.std.specs.List.{flat_map}
use Rattle.std.specs.Str.{bytes_eq}
use Rattle.std.specs.Cmp.Lexicographic.{slice_cmp, same_text, texts_ties}
use Rattle.std.proofs.lemmas.Bool.{or_cases, or_left, or_right, false≢true}
use Rattle.std.proofs.lemmas.Bool.Decides.{nat_tests}
use Rattle.std.proofs.lemmas.Cmp.{nat_list_cmp_total, tied_itself}
use Rattle.gr_ids.specs.declared.names.Gtid.{Gtid}
use Rattle.gr_ids.specs.Names.{bytes_lt, gtid_eq}
use Rattle.gtid_sets.specs.Canonical.{IsCanonical, IsNumber, IsUuid}
use Rattle.gtid_sets.specs.declared.run.Run.{Run}
use Rattle.gtid_sets.specs.Sets.{Gtids, before_run, common, has, in_run, joined, meet, single, with_gtid, with_run}
use Rattle.gtid_sets.proofs.LawLemmas.{all_with_gtid}
use Rattle.gtid_sets.proofs.PartLemmas.{has-append}
use Rattle.row_store.specs.Following.{IsPartOf}
use Rattle.row_store.proofs.Versions.{same_gtid}

-- ---- one more

bytes_itself : (x : List ℕ) → bytes_eq x x ≡ true
bytes_itself x = texts_ties x x ∙ ap is_eq (tied_itself nat_list_cmp_total x)

-- of two sources that are in no order both are one
bytes_tied : (x y : List ℕ) → bytes_lt x y ≡ false → bytes_lt y x ≡ false → bytes_eq x y ≡ true
bytes_tied x y p q = go (slice_cmp nat_cmp x y) refl
  where
    go : (o : Ordering) → slice_cmp nat_cmp x y ≡ o → bytes_eq x y ≡ true
    go Less e = absurd (false≢true (sym p ∙ ap is_lt e))
    go Equal e = texts_ties x y ∙ ap is_eq e
    go Greater e = absurd (false≢true (sym q ∙ ap is_lt (nat_list_cmp_total.antisymm y x ∙ ap ordering_reverse e)))

-- of two runs with no gap between, the one out of both has what either has
in_joined : (g : Gtid) (a r : Run) → before_run a r ≡ false → before_run r a ≡ false → (in_run g a ≡ true) ⊎ (in_run g r ≡ true) → in_run g (joined a r) ≡ true
in_joined g a r p q h = go (bytes_eq a.source r.source) refl
  where
    other : bytes_eq a.source r.source ≡ false → bytes_eq r.source a.source ≡ false
    other e = back (bytes_eq r.source a.source) refl
      where
        back : (b : Bool) → bytes_eq r.source a.source ≡ b → bytes_eq r.source a.source ≡ false
        back true f = absurd (false≢true (sym e ∙ ap (bytes_eq a.source) (same_text r.source a.source (sym f)) ∙ bytes_itself a.source))
        back false f = f

    go : (b : Bool) → bytes_eq a.source r.source ≡ b → in_run g (joined a r) ≡ true
    go true e =
        let s : r.source ≡ a.source = sym (same_text a.source r.source (sym e)) in
        elim h [
          | inl k ↦ grind (arith, nat_tests, k)
          | inr k ↦ (let z : (bytes_eq a.source g.source && (leb r.first g.number && leb g.number r.last)) ≡ true = ap (λ x. bytes_eq x g.source && (leb r.first g.number && leb g.number r.last)) (sym s) ∙ k in grind (arith, nat_tests, z))
        ]
    go false e = absurd (false≢true (sym e ∙ bytes_tied a.source r.source (rw e at p) (rw (other e) at q)))

in_with_run : (s : Gtids) (a : Run) (g : Gtid) → (in_run g a ≡ true) ⊎ (has s g ≡ true) → has (with_run s a) g ≡ true
in_with_run [] a g (inl h) = or_left (in_run g a) false h
in_with_run [] a g (inr h) = absurd (false≢true h)
in_with_run (r ∷ rs) a g h = go (before_run a r) (before_run r a) refl refl (in_with_run rs a g) (in_with_run rs (joined a r) g)
  where
    go : (p q : Bool) → before_run a r ≡ p → before_run r a ≡ q → ((in_run g a ≡ true) ⊎ (has rs g ≡ true) → has (with_run rs a) g ≡ true) → ((in_run g (joined a r) ≡ true) ⊎ (has rs g ≡ true) → has (with_run rs (joined a r)) g ≡ true)
        → has (elim p [ true ↦ a ∷ r ∷ rs | false ↦ elim q [ true ↦ r ∷ with_run rs a | false ↦ with_run rs (joined a r) ] ]) g ≡ true
    go true q e f j k = elim h [ inl x ↦ or_left (in_run g a) (has (r ∷ rs) g) x | inr x ↦ or_right (in_run g a) (has (r ∷ rs) g) x ]
    go false true e f j k = elim h [
      | inl x ↦ or_right (in_run g r) (has (with_run rs a) g) (j (inl x))
      | inr x ↦ elim (or_cases (in_run g r) (has rs g) x) [ inl y ↦ or_left (in_run g r) (has (with_run rs a) g) y | inr y ↦ or_right (in_run g r) (has (with_run rs a) g) (j (inr y)) ]
    ]
    go false false e f j k = elim h [
      | inl x ↦ k (inl (in_joined g a r e f (inl x)))
      | inr x ↦ elim (or_cases (in_run g r) (has rs g) x) [ inl y ↦ k (inl (in_joined g a r e f (inr y))) | inr y ↦ k (inr y) ]
    ]

pub grows : (s : Gtids) (g : Gtid) → IsPartOf s (with_gtid s g)
grows s g m h = in_with_run s (single g) m (inr h)

pub has_new : (s : Gtids) (g : Gtid) → has (with_gtid s g) g ≡ true
has_new s g = in_with_run s (single g) g (inl here)
  where
    here : in_run g (single g) ≡ true
    here = let b = bytes_itself g.source in grind (arith, nat_tests, b)

pub new_or_old : (s : Gtids) (g m : Gtid) → IsCanonical s → IsUuid g.source → IsNumber g.number → has (with_gtid s g) m ≡ true → (g ≡ m) ⊎ (has s m ≡ true)
new_or_old s g m k u n h = elim (or_cases (gtid_eq g m) (has s m) (sym (all_with_gtid s g m k u n) ∙ h)) [ inl e ↦ inl (same_gtid g m e) | inr e ↦ inr e ]

-- ---- what both have

in_common : (r b : Run) (g : Gtid) → has (common r b) g ≡ (in_run g r && in_run g b)
in_common r b g = go (bytes_eq r.source b.source) refl
  where
    low : ℕ
    low = cond (ltb r.first b.first) b.first r.first

    high : ℕ
    high = cond (ltb r.last b.last) r.last b.last

    none : bytes_eq r.source b.source ≡ false → (s t : Bool) → bytes_eq r.source g.source ≡ s → bytes_eq b.source g.source ≡ t → (in_run g r && in_run g b) ≡ false
    none e true true f k = absurd (false≢true (sym e ∙ ap (bytes_eq r.source) (same_text b.source g.source (sym k)) ∙ f))
    none e true false f k = grind (arith, nat_tests, f, k)
    none e false t f k = grind (arith, nat_tests, f, k)

    some : bytes_eq r.source b.source ≡ true → (t : Bool) → leb low high ≡ t → has (cond t (record { source = r.source; first = low; last = high } ∷ []) []) g ≡ (in_run g r && in_run g b)
    some e true f = let s : bytes_eq b.source g.source ≡ bytes_eq r.source g.source = ap (λ x. bytes_eq x g.source) (sym (same_text r.source b.source (sym e))) in grind (arith, nat_tests, f, s)
    some e false f = let s : bytes_eq b.source g.source ≡ bytes_eq r.source g.source = ap (λ x. bytes_eq x g.source) (sym (same_text r.source b.source (sym e))) in grind (arith, nat_tests, f, s)

    go : (t : Bool) → bytes_eq r.source b.source ≡ t → has (common r b) g ≡ (in_run g r && in_run g b)
    go true e = rw e (some e (leb low high) refl)
    go false e = rw e (sym (none e (bytes_eq r.source g.source) (bytes_eq b.source g.source) refl refl))

spread : (a b c : Bool) → ((a && b) || (a && c)) ≡ (a && (b || c))
spread true b c = refl
spread false b c = refl

spread_back : (a b c : Bool) → ((a && c) || (b && c)) ≡ ((a || b) && c)
spread_back true true true = refl
spread_back true true false = refl
spread_back true false true = refl
spread_back true false false = refl
spread_back false b c = refl

none_left : (a : Bool) → false ≡ (a && false)
none_left true = refl
none_left false = refl

in_commons : (r : Run) (b : Gtids) (g : Gtid) → has (flat_map (common r) b) g ≡ (in_run g r && has b g)
in_commons r [] g = none_left (in_run g r)
in_commons r (x ∷ xs) g =
    has-append (common r x) (flat_map (common r) xs) g
    ∙ (ap (λ t. t || has (flat_map (common r) xs) g) (in_common r x g)
    ∙ (ap (λ t. (in_run g r && in_run g x) || t) (in_commons r xs g) ∙ spread (in_run g r) (in_run g x) (has xs g)))

pub has_both : (a b : Gtids) (g : Gtid) → has (meet a b) g ≡ (has a g && has b g)
has_both [] b g = refl
has_both (r ∷ rs) b g =
    has-append (flat_map (common r) b) (meet rs b) g
    ∙ (ap (λ t. t || has (meet rs b) g) (in_commons r b g)
    ∙ (ap (λ t. (in_run g r && has b g) || t) (has_both rs b g) ∙ spread_back (in_run g r) (has rs g) (has b g)))
