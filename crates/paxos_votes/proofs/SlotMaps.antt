-- A map by slot, seen as a list kept by slot: f makes the element of an entry, which has the entry's key as its slot.
use Rattle.std.proofs.Common.{◌≡◌, ℕ, ◌<◌, ◌≤◌, Bool, true, false, List, [], ◌∷◌, Option, Some, None, ltb, eqb, refl, sym, ap, ◌∙◌, arith, subst}
use Rattle.std.specs.Prelude.{map, nat_lt, nat_le, option_map, is_some, cond, not, ◌&&◌, slice_get, length, IsSome, IfSome, IsSomeAnd}
use Rattle.std.specs.List.{All, AllByRecursion}
use Rattle.std.specs.Ordering.{nat_cmp, is_le, is_gt, match_ordering}
use Rattle.std.specs.Map.{lookup, keys_of}
use Rattle.std.specs.BTreeMap.{insert_entry, is_at}
use Rattle.std.specs.BTreeMap.Range.{entries_between, IsLeBy}
use Rattle.std.specs.declared.ops.Bound.TheVariants.{Included, Excluded, Unbounded}
use Rattle.std.specs.declared.cmp.Ordering.TheVariants.{Less, Equal, Greater}
use Rattle.std.specs.declared.cmp.Ordering.{Ordering}
use Rattle.std.proofs.lemmas.Bool.{ltb-true, ltb-false, le-ltb, ne_eqb, eqb-true, eqb-false, eq-eqb}
use Rattle.std.proofs.lemmas.Bool.Decides.{nat_tests}
use Rattle.std.proofs.lemmas.List.Elements.{All-head, All-tail}
use Rattle.node_rules.specs.Slots.{at_slot, put_slot, from_slot}
use Rattle.paxos_votes.specs.Entries.{entries_from, entries_within}

pub put_is : {X A : Type 0} (f : ℕ × X → A) (slot : A → ℕ) → ((e : ℕ × X) → slot (f e) ≡ e.0) → (es : List (ℕ × X)) (k : ℕ) (v : X) → map f (insert_entry nat_cmp es k v) ≡ put_slot slot (map f es) (f (k, v))
put_is f slot h [] k v = refl
put_is {X} {A} f slot h (e ∷ es) k v = go (ltb k e.0) (eqb k e.0) refl refl (put_is f slot h es k v)
  where
    go : (u w : Bool) → ltb k e.0 ≡ u → eqb k e.0 ≡ w → map f (insert_entry nat_cmp es k v) ≡ put_slot slot (map f es) (f (k, v)) → map f (insert_entry nat_cmp (e ∷ es) k v) ≡ put_slot slot (map f (e ∷ es)) (f (k, v))
    go true w p q r =
        let below : k < e.0 = ltb-true k e.0 p in
        rw (h e, h (k, v), ne_eqb e.0 k (omega arith), p) refl
    go false true p q r =
        let same : k ≡ e.0 = eqb-true k e.0 q in
        rw (h e, h (k, v), eq-eqb e.0 k (sym same), p, q) (ap (λ t. f (t, v) ∷ map f es) (sym same))
    go false false p q r =
        let other : (k ≡ e.0 → ⊥) = eqb-false k e.0 q in
        rw (h e, h (k, v), ne_eqb e.0 k (λ s. other (sym s)), p, q) (ap (λ l. f e ∷ l) r)

pub at_is : {X A : Type 0} (f : ℕ × X → A) (slot : A → ℕ) → ((e : ℕ × X) → slot (f e) ≡ e.0) → (es : List (ℕ × X)) (t : ℕ) → at_slot slot (map f es) t ≡ option_map (λ v. f (t, v)) (lookup (is_at (nat_cmp t)) es)
at_is f slot h [] t = refl
at_is {X} {A} f slot h (e ∷ es) t = go (ltb t e.0) (eqb t e.0) refl refl (at_is f slot h es t)
  where
    go : (u w : Bool) → ltb t e.0 ≡ u → eqb t e.0 ≡ w → at_slot slot (map f es) t ≡ option_map (λ v. f (t, v)) (lookup (is_at (nat_cmp t)) es) → at_slot slot (map f (e ∷ es)) t ≡ option_map (λ v. f (t, v)) (lookup (is_at (nat_cmp t)) (e ∷ es))
    go true w p q r =
        let below : t < e.0 = ltb-true t e.0 p in
        rw (h e, ne_eqb e.0 t (omega arith), p) r
    go false true p q r =
        let same : t ≡ e.0 = eqb-true t e.0 q in
        rw (h e, eq-eqb e.0 t (sym same), p, q) (ap (λ s. Some (f (s, e.1))) (sym same))
    go false false p q r =
        let other : (t ≡ e.0 → ⊥) = eqb-false t e.0 q in
        rw (h e, ne_eqb e.0 t (λ s. other (sym s)), p, q) r

pub has_is : {X A : Type 0} (f : ℕ × X → A) (slot : A → ℕ) → ((e : ℕ × X) → slot (f e) ≡ e.0) → (es : List (ℕ × X)) (t : ℕ) → is_some (at_slot slot (map f es) t) ≡ is_some (lookup (is_at (nat_cmp t)) es)
has_is f slot h es t = ap is_some (at_is f slot h es t) ∙ same (lookup (is_at (nat_cmp t)) es)
  where
    same : (o : Option _) → is_some (option_map (λ v. f (t, v)) o) ≡ is_some o
    same None = refl
    same (Some v) = refl

pub from_is : {X A : Type 0} (f : ℕ × X → A) (slot : A → ℕ) → ((e : ℕ × X) → slot (f e) ≡ e.0) → (es : List (ℕ × X)) (s : ℕ) → from_slot slot (map f es) s ≡ map f (entries_from s es)
from_is f slot h [] s = refl
from_is {X} {A} f slot h (e ∷ es) s = go (nat_le s e.0) refl (from_is f slot h es s)
  where
    go : (u : Bool) → nat_le s e.0 ≡ u → from_slot slot (map f es) s ≡ map f (entries_from s es) → from_slot slot (map f (e ∷ es)) s ≡ map f (entries_from s (e ∷ es))
    go true p r = rw (h e, p) (ap (λ l. f e ∷ l) r)
    go false p r = rw (h e, p) r

le_cmp : (s q : ℕ) → is_le (nat_cmp s q) ≡ nat_le s q
le_cmp s q = go (ltb s q) (eqb s q) refl refl
  where
    go : (u w : Bool) → ltb s q ≡ u → eqb s q ≡ w → is_le (nat_cmp s q) ≡ nat_le s q
    go true w a b = let below : s < q = ltb-true s q a in let yes : nat_le s q ≡ true = grind (arith, nat_tests) in rw (a, yes) refl
    go false true a b = let same : s ≡ q = eqb-true s q b in let yes : nat_le s q ≡ true = grind (arith, nat_tests) in rw (a, b, yes) refl
    go false false a b =
        let above : q ≤ s = ltb-false s q a in
        let other : (s ≡ q → ⊥) = eqb-false s q b in
        let no : nat_le s q ≡ false = grind (arith, nat_tests) in
        rw (a, b, no) refl

not_le : (t q : ℕ) → not (is_le (nat_cmp t q)) ≡ nat_lt q t
not_le t q = rw le_cmp (go (nat_lt q t) refl)
  where
    go : (u : Bool) → nat_lt q t ≡ u → not (nat_le t q) ≡ nat_lt q t
    go true p = let below : q < t = ltb-true q t p in let no : nat_le t q ≡ false = grind (arith, nat_tests) in rw (no, p) refl
    go false p = let from : t ≤ q = ltb-false q t p in let yes : nat_le t q ≡ true = grind (arith, nat_tests) in rw (yes, p) refl

pub range_is : {X : Type 0} (es : List (ℕ × X)) (s : ℕ) → entries_between nat_cmp (Included s) Unbounded es ≡ entries_from s es
range_is [] s = refl
range_is {X} (e ∷ es) s = go (nat_le s e.0) refl (range_is es s)
  where
    go : (u : Bool) → nat_le s e.0 ≡ u → entries_between nat_cmp (Included s) Unbounded es ≡ entries_from s es → entries_between nat_cmp (Included s) Unbounded (e ∷ es) ≡ entries_from s (e ∷ es)
    go true p r = rw (le_cmp s e.0, p) (ap (λ l. e ∷ l) r)
    go false p r = rw (le_cmp s e.0, p) r

pub within_is : {X : Type 0} (es : List (ℕ × X)) (s t : ℕ) → entries_between nat_cmp (Included s) (Excluded t) es ≡ entries_within s t es
within_is [] s t = refl
within_is {X} (e ∷ es) s t = go (nat_le s e.0 && nat_lt e.0 t) refl (within_is es s t)
  where
    Here : Type 0
    Here = entries_between nat_cmp (Included s) (Excluded t) (e ∷ es) ≡ entries_within s t (e ∷ es)

    go : (u : Bool) → (nat_le s e.0 && nat_lt e.0 t) ≡ u → entries_between nat_cmp (Included s) (Excluded t) es ≡ entries_within s t es → Here
    go true p r = rw (le_cmp s e.0, not_le t e.0, p) (ap (λ l. e ∷ l) r)
    go false p r = rw (le_cmp s e.0, not_le t e.0, p) r

pub drops_first : {X : Type 0} (e : ℕ × X) (es : List (ℕ × X)) (s : ℕ) → e.0 < s → entries_from s (e ∷ es) ≡ entries_from s es
drops_first e es s h = let no : nat_le s e.0 ≡ false = grind (arith, nat_tests) in rw no refl

le_from : (k s q : ℕ) → s ≤ k → is_gt (nat_cmp k q) ≡ false → nat_le s q ≡ true
le_from k s q h g = go (ltb q k) refl
  where
    go : (u : Bool) → ltb q k ≡ u → nat_le s q ≡ true
    go false a = let above : k ≤ q = ltb-false q k a in grind (arith, nat_tests)
    go true a =
        let below : q < k = ltb-true q k a in
        let bad : is_gt (nat_cmp k q) ≡ true = rw (le-ltb k q (omega arith), ne_eqb k q (omega arith)) refl in
        absurd (let never : true ≡ false = sym bad ∙ g in cc)

-- nothing is below the first slot
pub all_from : {X : Type 0} (es : List (ℕ × X)) (k s : ℕ) → s ≤ k → All (IsLeBy nat_cmp k) (keys_of es) → entries_from s es ≡ es
all_from [] k s h a = refl
all_from (e ∷ es) k s h a =
    let here : is_gt (nat_cmp k e.0) ≡ false = All-head (IsLeBy nat_cmp k) e.0 (keys_of es) a in
    let yes : nat_le s e.0 ≡ true = le_from k s e.0 h here in
    rw yes (ap (λ l. e ∷ l) (all_from es k s h (All-tail (IsLeBy nat_cmp k) e.0 (keys_of es) a)))

-- the first entry is popped, and is below s
pub pops : {X : Type 0} (es fs : List (ℕ × X)) (r : Option (ℕ × X)) (s : ℕ) → IsSomeAnd (slice_get es 0) (λ e. e.0 < s) → IfSome r (λ p. es ≡ p ∷ fs) → (0 < length es → IsSome r) → (entries_from s fs ≡ entries_from s es) × (length fs < length es)
pops [] fs r s h p v = absurd h
pops (e ∷ es) fs None s h p v = absurd (let no : false ≡ true = v (omega arith) in cc)
pops (e ∷ es) fs (Some x) s h p v =
    let heads : e ≡ x = cc in
    let rest : es ≡ fs = cc in
    (rw (← rest) (sym (drops_first e es s h)), rw (← rest) (omega arith))

-- what holds of each slot
pub each_put : {X : Type 0} (P : ℕ → Type 0) (es : List (ℕ × X)) (k : ℕ) (v : X) → P k → AllByRecursion (λ e. P e.0) es → AllByRecursion (λ e. P e.0) (insert_entry nat_cmp es k v)
each_put P [] k v h a = (h, tt)
each_put {X} P (e ∷ es) k v h a = go (nat_cmp k e.0) (each_put P es k v h a.1)
  where
    go : (o : Ordering) → AllByRecursion (λ (e : ℕ × X). P e.0) (insert_entry nat_cmp es k v) → AllByRecursion (λ (e : ℕ × X). P e.0) (match_ordering o ((k, v) ∷ e ∷ es) ((e.0, v) ∷ es) (e ∷ insert_entry nat_cmp es k v))
    go Less r = (h, a)
    go Equal r = (a.0, a.1)
    go Greater r = (a.0, r)

pub each_from : {X : Type 0} (P : ℕ → Type 0) (es : List (ℕ × X)) (s : ℕ) → AllByRecursion (λ e. P e.0) es → AllByRecursion (λ e. P e.0) (entries_from s es)
each_from P [] s a = tt
each_from {X} P (e ∷ es) s a = go (nat_le s e.0) (each_from P es s a.1)
  where
    go : (u : Bool) → AllByRecursion (λ (e : ℕ × X). P e.0) (entries_from s es) → AllByRecursion (λ (e : ℕ × X). P e.0) (cond u (e ∷ entries_from s es) (entries_from s es))
    go true r = (a.0, r)
    go false r = r

pub each_at : {X : Type 0} (P : ℕ → Type 0) (es : List (ℕ × X)) (k : ℕ) → is_some (lookup (is_at (nat_cmp k)) es) ≡ true → AllByRecursion (λ e. P e.0) es → P k
each_at P [] k h a = absurd cc
each_at {X} P (e ∷ es) k h a = go (ltb k e.0) (eqb k e.0) refl refl (λ q. each_at P es k (ap is_some (sym q) ∙ h) a.1)
  where
    go : (u w : Bool) → ltb k e.0 ≡ u → eqb k e.0 ≡ w → (lookup (is_at (nat_cmp k)) (e ∷ es) ≡ lookup (is_at (nat_cmp k)) es → P k) → P k
    go true w p q tail = tail (rw p refl)
    go false true p q tail = subst P (sym (eqb-true k e.0 q)) a.0
    go false false p q tail = tail (rw (p, q) refl)
