-- Members of lists, and lists kept by slot.
use Rattle.std.proofs.Common.{◌≡◌, ℕ, ◌+◌, ◌<◌, ◌≤◌, Bool, true, false, cond, ◌⊎◌, inl, inr, Option, Some, None, List, [], ◌∷◌, ◌++◌, refl, sym, ap, ◌∙◌, subst, arith}
use Rattle.std.proofs.Common.{length, ltb, eqb, ◌*◌, eq-eqb}
use Rattle.std.specs.Prelude.{count_by, fold, map, filter, flat_map}
use Rattle.std.proofs.lemmas.Bool.{eqb-true, eqb-false, ltb-true, lt-ltb, ne_eqb, or_cases, or_left, or_right, false≢true}
use Rattle.std.proofs.lemmas.List.Sums.{sum_by-cons}
use Rattle.gr_ids.specs.Names.{inc_eq, has_inc, ballot_lt}
use Rattle.node_rules.specs.Chosen.{Cast, cast_eq, has_cast}
use Rattle.node_rules.specs.Leader.{vote_at, Promised, has_promise, better, best}
use Rattle.node_rules.specs.Lists.{In}
use Rattle.node_rules.specs.Slots.{at_slot, put_slot, from_slot}
use Rattle.order_laws.specs.Names.{Inc, Vote}
use Rattle.slot_values.specs.Log.{majority}
use Rattle.std.proofs.Common.{leb}
use Rattle.std.proofs.lemmas.Bool.{leb-false}
use Rattle.node_rules.proofs.Incs.{inc_is, inc_same}
use Rattle.order_laws.proofs.Order.{cast-eq, cast_same, lt_same, lt_le, le_trans}

pub in_left : {A : Type 0} (x : A) (xs ys : List A) → In x xs → In x (xs ++ ys)
in_left x [] ys h = absurd h
in_left x (y ∷ xs) ys (inl e) = inl e
in_left x (y ∷ xs) ys (inr h) = inr (in_left x xs ys h)

pub in_right : {A : Type 0} (x : A) (xs ys : List A) → In x ys → In x (xs ++ ys)
in_right x [] ys h = h
in_right x (y ∷ xs) ys h = inr (in_right x xs ys h)

pub in_append : {A : Type 0} (x : A) (xs ys : List A) → In x (xs ++ ys) → In x xs ⊎ In x ys
in_append x [] ys h = inr h
in_append x (y ∷ xs) ys (inl e) = inl (inl e)
in_append x (y ∷ xs) ys (inr h) = go (in_append x xs ys h)
  where
    go : In x xs ⊎ In x ys → In x (y ∷ xs) ⊎ In x ys
    go (inl k) = inl (inr k)
    go (inr k) = inr k

-- ---- the tests of membership

pub cast-in : (cs : List Cast) (c : Cast) → has_cast cs c ≡ true → In c cs
cast-in [] c h = absurd (false≢true h)
cast-in (x ∷ cs) c h = elim (or_cases (cast_eq x c) (has_cast cs c) h) [ inl e ↦ inl (cast-eq x c e) | inr e ↦ inr (cast-in cs c e) ]

pub has-cast : (cs : List Cast) (c : Cast) → In c cs → has_cast cs c ≡ true
has-cast [] c h = absurd h
has-cast (x ∷ cs) c (inl e) = or_left _ _ (subst (λ y. cast_eq x y ≡ true) e (cast_same x))
has-cast (x ∷ cs) c (inr h) = or_right _ _ (has-cast cs c h)

pub inc-in : (cs : List Inc) (c : Inc) → has_inc cs c ≡ true → In c cs
inc-in [] c h = absurd (false≢true h)
inc-in (x ∷ cs) c h = elim (or_cases (inc_eq x c) (has_inc cs c) h) [ inl e ↦ inl (inc_is x c e) | inr e ↦ inr (inc-in cs c e) ]

pub has-inc : (cs : List Inc) (c : Inc) → In c cs → has_inc cs c ≡ true
has-inc [] c h = absurd h
has-inc (x ∷ cs) c (inl e) = or_left _ _ (subst (λ y. inc_eq x y ≡ true) e (inc_same x))
has-inc (x ∷ cs) c (inr h) = or_right _ _ (has-inc cs c h)

-- a promise of this incarnation is kept
pub promise-in : (ps : List Promised) (i : Inc) → has_promise ps i ≡ true → (p : Promised) × In p ps × (p.inc ≡ i)
promise-in [] i h = absurd (false≢true h)
promise-in (x ∷ ps) i h = elim (or_cases (inc_eq x.inc i) (has_promise ps i) h) [ inl e ↦ (x, inl refl, inc_is x.inc i e) | inr e ↦ let r = promise-in ps i e in (r.0, inr r.1, r.2) ]

-- ---- two majorities share a member

count_yes : {A : Type 0} (p : A → Bool) (x : A) (c : List A) → p x ≡ true → count_by p (x ∷ c) ≡ 1 + count_by p c
count_yes p x c e = sum_by-cons (λ y. cond (p y) 1 0) x c ∙ ap (λ b. cond b 1 0 + count_by p c) e

count_no : {A : Type 0} (p : A → Bool) (x : A) (c : List A) → p x ≡ false → count_by p (x ∷ c) ≡ 0 + count_by p c
count_no p x c e = sum_by-cons (λ y. cond (p y) 1 0) x c ∙ ap (λ b. cond b 1 0 + count_by p c) e

pub share : {A : Type 0} (p q : A → Bool) (c : List A) → length c < count_by p c + count_by q c → (x : A) × In x c × (p x ≡ true) × (q x ≡ true)
share p q [] h = absurd (omega arith)
share {A} p q (x ∷ c) h = go (p x) (q x) refl refl (share p q c)
  where
    Found : List A → Type 0
    Found c = (x : A) × In x c × (p x ≡ true) × (q x ≡ true)

    later : Found c → Found (x ∷ c)
    later r = (r.0, inr r.1, r.2, r.3)

    go : (u v : Bool) → p x ≡ u → q x ≡ v → (length c < count_by p c + count_by q c → Found c) → Found (x ∷ c)
    go true true e f r = (x, inl refl, e, f)
    go true false e f r = later (r (omega (arith, count_yes p x c e, count_no q x c f)))
    go false true e f r = later (r (omega (arith, count_no p x c e, count_yes q x c f)))
    go false false e f r = later (r (omega (arith, count_no p x c e, count_no q x c f)))

pub quorum : (c : List Inc) (p q : Inc → Bool) → majority c p ≡ true → majority c q ≡ true → (x : Inc) × In x c × (p x ≡ true) × (q x ≡ true)
quorum c p q h k = share p q c (omega (arith, ltb-true (length c) (2 * count_by p c) h, ltb-true (length c) (2 * count_by q c) k))

pub some_member : (c : List Inc) (p : Inc → Bool) → majority c p ≡ true → (x : Inc) × In x c × (p x ≡ true)
some_member c p h = let r = quorum c p p h h in (r.0, r.1, r.2)

-- ---- lists by slot

pub at_slot-put_same : {A : Type 0} (slot : A → ℕ) (xs : List A) (x : A) (t : ℕ) → slot x ≡ t → at_slot slot (put_slot slot xs x) t ≡ Some x
at_slot-put_same slot [] x t e = rw (eq-eqb (slot x) t e)
at_slot-put_same slot (y ∷ ys) x t e = go (eqb (slot y) (slot x)) (ltb (slot x) (slot y)) refl refl (at_slot-put_same slot ys x t e)
  where
    here : at_slot slot (x ∷ ys) t ≡ Some x
    here = rw (eq-eqb (slot x) t e)

    go : (u v : Bool) → eqb (slot y) (slot x) ≡ u → ltb (slot x) (slot y) ≡ v → at_slot slot (put_slot slot ys x) t ≡ Some x → at_slot slot (put_slot slot (y ∷ ys) x) t ≡ Some x
    go true v f g r = rw (f, eq-eqb (slot x) t e)
    go false true f g r = rw (f, g, eq-eqb (slot x) t e)
    go false false f g r = let n : (slot y ≡ t → ⊥) = (λ k. eqb-false (slot y) (slot x) f (k ∙ sym e)) in rw (f, g, ne_eqb (slot y) t n) r

pub at_slot-put_other : {A : Type 0} (slot : A → ℕ) (xs : List A) (x : A) (t : ℕ) → (slot x ≡ t → ⊥) → at_slot slot (put_slot slot xs x) t ≡ at_slot slot xs t
at_slot-put_other slot [] x t n = rw (ne_eqb (slot x) t n)
at_slot-put_other slot (y ∷ ys) x t n = go (eqb (slot y) (slot x)) (ltb (slot x) (slot y)) refl refl (at_slot-put_other slot ys x t n)
  where
    go : (u v : Bool) → eqb (slot y) (slot x) ≡ u → ltb (slot x) (slot y) ≡ v → at_slot slot (put_slot slot ys x) t ≡ at_slot slot ys t → at_slot slot (put_slot slot (y ∷ ys) x) t ≡ at_slot slot (y ∷ ys) t
    go true v f g r = let m : (slot y ≡ t → ⊥) = (λ k. n (sym (eqb-true (slot y) (slot x) f) ∙ k)) in rw (f, ne_eqb (slot x) t n, ne_eqb (slot y) t m)
    go false true f g r = rw (f, g, ne_eqb (slot x) t n)
    go false false f g r = rw (f, g) (ap (λ o. cond (eqb (slot y) t) (Some y) o) r)

pub at_slot-from : {A : Type 0} (slot : A → ℕ) (xs : List A) (s t : ℕ) → s ≤ t → at_slot slot (from_slot slot xs s) t ≡ at_slot slot xs t
at_slot-from slot [] s t h = refl
at_slot-from slot (x ∷ xs) s t h = go (leb s (slot x)) refl (at_slot-from slot xs s t h)
  where
    go : (u : Bool) → leb s (slot x) ≡ u → at_slot slot (from_slot slot xs s) t ≡ at_slot slot xs t → at_slot slot (from_slot slot (x ∷ xs) s) t ≡ at_slot slot (x ∷ xs) t
    go false f r = let l : slot x < s = leb-false s (slot x) f in let n : (slot x ≡ t → ⊥) = omega arith in rw (f, ne_eqb (slot x) t n) r
    go true f r = rw f (ap (λ o. cond (eqb (slot x) t) (Some x) o) r)

pub at_slot-slot : {A : Type 0} (slot : A → ℕ) (xs : List A) (t : ℕ) (x : A) → at_slot slot xs t ≡ Some x → slot x ≡ t
at_slot-slot slot [] t x h = cc
at_slot-slot slot (y ∷ ys) t x h = go (eqb (slot y) t) refl (at_slot-slot slot ys t x)
  where
    go : (u : Bool) → eqb (slot y) t ≡ u → (at_slot slot ys t ≡ Some x → slot x ≡ t) → slot x ≡ t
    go true f r = let k : Some y ≡ Some x = rw f at h in let e : y ≡ x = cc in ap slot (sym e) ∙ eqb-true (slot y) t f
    go false f r = r (rw f at h)

pub at_slot-in : {A : Type 0} (slot : A → ℕ) (xs : List A) (t : ℕ) (x : A) → at_slot slot xs t ≡ Some x → In x xs
at_slot-in slot [] t x h = cc
at_slot-in slot (y ∷ ys) t x h = go (eqb (slot y) t) refl (at_slot-in slot ys t x)
  where
    go : (u : Bool) → eqb (slot y) t ≡ u → (at_slot slot ys t ≡ Some x → In x ys) → In x (y ∷ ys)
    go true f r = let k : Some y ≡ Some x = rw f at h in let e : y ≡ x = cc in inl e
    go false f r = inr (r (rw f at h))

-- ---- the best vote is reported, and none reported is above it

-- one of these promises reported the vote for the slot
abbrev Reported : List Promised → ℕ → Vote → Type 0
Reported ps t y = (p : Promised) × In p ps × (vote_at p.votes t ≡ Some y)

better_real : (c : List Inc) (t : ℕ) (o : Option Vote) (p : Promised) (y : Vote) → better c t o p ≡ Some y → (o ≡ Some y) ⊎ (vote_at p.votes t ≡ Some y)
better_real c t o p y h = go (has_inc c p.inc) refl o refl (vote_at p.votes t) refl
  where
    go : (u : Bool) → has_inc c p.inc ≡ u → (q : Option Vote) → o ≡ q → (v : Option Vote) → vote_at p.votes t ≡ v → (q ≡ Some y) ⊎ (v ≡ Some y)
    go false e q g v f = inl (sym g ∙ rw e at h)
    go true e None g v f = inr (rw (e, g, f) at h)
    go true e (Some x) g None f = inl (rw (e, g, f) at h)
    go true e (Some x) g (Some z) f = pick (ballot_lt x.ballot z.ballot) refl
      where
        pick : (w : Bool) → ballot_lt x.ballot z.ballot ≡ w → (Some x ≡ Some y) ⊎ (Some z ≡ Some y)
        pick true w = inr (rw (e, g, f, w) at h)
        pick false w = inl (rw (e, g, f, w) at h)

best_from : (c : List Inc) (t : ℕ) (ps : List Promised) (o : Option Vote) (y : Vote) → fold (better c t) o ps ≡ Some y → (o ≡ Some y) ⊎ Reported ps t y
best_from c t [] o y h = inl h
best_from c t (p ∷ ps) o y h = elim (best_from c t ps (better c t o p) y h) [
  | inl e ↦ elim (better_real c t o p y e) [ inl k ↦ inl k | inr k ↦ inr (p, inl refl, k) ]
  | inr r ↦ inr (r.0, inr r.1, r.2)
]

pub best_real : (c : List Inc) (ps : List Promised) (t : ℕ) (y : Vote) → best c ps t ≡ Some y → (p : Promised) × In p ps × (vote_at p.votes t ≡ Some y)
best_real c ps t y h = elim (best_from c t ps None y h) [ inl e ↦ absurd (cc) | inr r ↦ r ]

-- a vote at this one's ballot or above
abbrev Above : Option Vote → Vote → Type 0
Above o x = (y : Vote) × (o ≡ Some y) × (ballot_lt y.ballot x.ballot ≡ false)

better_above : (c : List Inc) (t : ℕ) (o : Option Vote) (p : Promised) (x : Vote) → Above o x → Above (better c t o p) x
better_above c t o p x a = go (has_inc c p.inc) refl (vote_at p.votes t) refl
  where
    y : Vote
    y = a.0

    go : (u : Bool) → has_inc c p.inc ≡ u → (v : Option Vote) → vote_at p.votes t ≡ v → Above (better c t o p) x
    go false e v f = (a.0, rw e a.1, a.2)
    go true e None f = (a.0, rw (e, f, a.1) refl, a.2)
    go true e (Some z) f = pick (ballot_lt (a.0).ballot z.ballot) refl
      where
        pick : (w : Bool) → ballot_lt (a.0).ballot z.ballot ≡ w → Above (better c t o p) x
        pick true w = (z, rw (e, f, a.1, w) refl, le_trans x.ballot (a.0).ballot z.ballot a.2 (lt_le (a.0).ballot z.ballot w))
        pick false w = (a.0, rw (e, f, a.1, w) refl, a.2)

better_new : (c : List Inc) (t : ℕ) (o : Option Vote) (p : Promised) (x : Vote) → has_inc c p.inc ≡ true → vote_at p.votes t ≡ Some x → Above (better c t o p) x
better_new c t None p x m e = (x, rw (m, e) refl, lt_same x.ballot)
better_new c t (Some z) p x m e = pick (ballot_lt z.ballot x.ballot) refl
  where
    pick : (w : Bool) → ballot_lt z.ballot x.ballot ≡ w → Above (better c t (Some z) p) x
    pick true w = (x, rw (m, e, w) refl, lt_same x.ballot)
    pick false w = (z, rw (m, e, w) refl, w)

above_from : (c : List Inc) (t : ℕ) (ps : List Promised) (o : Option Vote) (x : Vote) → Above o x → Above (fold (better c t) o ps) x
above_from c t [] o x a = a
above_from c t (p ∷ ps) o x a = above_from c t ps (better c t o p) x (better_above c t o p x a)

most_from : (c : List Inc) (t : ℕ) (ps : List Promised) (o : Option Vote) (p : Promised) (x : Vote) → In p ps → has_inc c p.inc ≡ true → vote_at p.votes t ≡ Some x → Above (fold (better c t) o ps) x
most_from c t [] o p x i m e = absurd i
most_from c t (q ∷ ps) o p x (inl s) m e = above_from c t ps (better c t o q) x (better_new c t o q x (ap (λ z. has_inc c z.inc) s ∙ m) (ap (λ z. vote_at z.votes t) s ∙ e))
most_from c t (q ∷ ps) o p x (inr i) m e = most_from c t ps (better c t o q) p x i m e

pub best_most : (c : List Inc) (ps : List Promised) (t : ℕ) (p : Promised) (x : Vote) → In p ps → has_inc c p.inc ≡ true → vote_at p.votes t ≡ Some x → (y : Vote) × (best c ps t ≡ Some y) × (ballot_lt y.ballot x.ballot ≡ false)
best_most c ps t p x i m e = most_from c t ps None p x i m e

pub in_push : {A : Type 0} (x : A) (xs : List A) (y : A) → In x (xs ++ y ∷ []) → In x xs ⊎ (y ≡ x)
in_push x xs y h = elim (in_append x xs (y ∷ []) h) [ inl k ↦ inl k | inr k ↦ elim k [ inl e ↦ inr e | inr b ↦ absurd b ] ]

pub in_last : {A : Type 0} (xs : List A) (y : A) → In y (xs ++ y ∷ [])
in_last xs y = in_right y xs (y ∷ []) (inl refl)

pub in_put : {A : Type 0} (slot : A → ℕ) (xs : List A) (x y : A) → In y (put_slot slot xs x) → (x ≡ y) ⊎ In y xs
in_put slot [] x y h = elim h [ inl e ↦ inl e | inr b ↦ absurd b ]
in_put slot (z ∷ zs) x y h = go (eqb (slot z) (slot x)) (ltb (slot x) (slot z)) refl refl (in_put slot zs x y)
  where
    go : (u v : Bool) → eqb (slot z) (slot x) ≡ u → ltb (slot x) (slot z) ≡ v → (In y (put_slot slot zs x) → (x ≡ y) ⊎ In y zs) → (x ≡ y) ⊎ In y (z ∷ zs)
    go true v f g r = let k : In y (x ∷ zs) = rw f at h in elim k [ inl e ↦ inl e | inr i ↦ inr (inr i) ]
    go false true f g r = let k : In y (x ∷ z ∷ zs) = rw (f, g) at h in elim k [ inl e ↦ inl e | inr i ↦ inr i ]
    go false false f g r = let k : In y (z ∷ put_slot slot zs x) = rw (f, g) at h in elim k [ inl e ↦ inr (inl e) | inr i ↦ elim (r i) [ inl e ↦ inl e | inr j ↦ inr (inr j) ] ]

pub in_from : {A : Type 0} (slot : A → ℕ) (xs : List A) (s : ℕ) (y : A) → In y (from_slot slot xs s) → In y xs
in_from slot [] s y h = h
in_from slot (x ∷ xs) s y h = go (leb s (slot x)) refl (in_from slot xs s y)
  where
    go : (u : Bool) → leb s (slot x) ≡ u → (In y (from_slot slot xs s) → In y xs) → In y (x ∷ xs)
    go false f r = inr (r (rw f at h))
    go true f r = let k : In y (x ∷ from_slot slot xs s) = rw f at h in elim k [ inl e ↦ inl e | inr i ↦ inr (r i) ]

-- ---- a count of more

count_more : {A : Type 0} (p q : A → Bool) → ((x : A) → p x ≡ true → q x ≡ true) → (c : List A) → count_by p c ≤ count_by q c
count_more p q f [] = omega arith
count_more p q f (x ∷ c) = go (p x) (q x) refl refl (count_more p q f c)
  where
    go : (u v : Bool) → p x ≡ u → q x ≡ v → count_by p c ≤ count_by q c → count_by p (x ∷ c) ≤ count_by q (x ∷ c)
    go true true e k r = omega (arith, count_yes p x c e, count_yes q x c k)
    go true false e k r = absurd (false≢true (sym k ∙ f x e))
    go false true e k r = omega (arith, count_no p x c e, count_yes q x c k)
    go false false e k r = omega (arith, count_no p x c e, count_no q x c k)

pub majority_more : (c : List Inc) (p q : Inc → Bool) → ((x : Inc) → p x ≡ true → q x ≡ true) → majority c p ≡ true → majority c q ≡ true
majority_more c p q f h = lt-ltb (length c) (2 * count_by q c) (omega (arith, count_more p q f c, ltb-true (length c) (2 * count_by p c) h))

-- ---- what is in a list that was mapped or filtered

pub in_map : {A B : Type 0} (f : A → B) (xs : List A) (y : B) → In y (map f xs) → (x : A) × In x xs × (f x ≡ y)
in_map f [] y h = absurd h
in_map f (x ∷ xs) y (inl e) = (x, inl refl, e)
in_map f (x ∷ xs) y (inr h) = let r = in_map f xs y h in (r.0, inr r.1, r.2)

pub in_filter : {A : Type 0} (p : A → Bool) (xs : List A) (x : A) → In x (filter p xs) → In x xs
in_filter p [] x h = h
in_filter p (y ∷ ys) x h = go (p y) refl (in_filter p ys x)
  where
    go : (u : Bool) → p y ≡ u → (In x (filter p ys) → In x ys) → In x (y ∷ ys)
    go true e r = let q : In x (y ∷ filter p ys) = rw e at h in elim q [ inl z ↦ inl z | inr z ↦ inr (r z) ]
    go false e r = inr (r (rw e at h))

pub in_flat : {A B : Type 0} (f : A → List B) (xs : List A) (y : B) → In y (flat_map f xs) → (x : A) × In x xs × In y (f x)
in_flat f [] y h = absurd h
in_flat {A} {B} f (x ∷ xs) y h = elim (in_append y (f x) (flat_map f xs) h) [ inl k ↦ (x, inl refl, k) | inr k ↦ let r = in_flat f xs y k in (r.0, inr r.1, r.2) ]
