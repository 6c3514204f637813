-- Holds ascend, whatever comes, changes and goes.
use Rattle.std.proofs.Common.{◌≡◌, ℕ, ◌<◌, ◌≤◌, Bool, true, false, ◌&&◌, List, [], ◌∷◌, map, filter, refl, ap, ◌∙◌, arith}
use Rattle.std.specs.Prelude.{nat_lt, ◌==◌}
use Rattle.std.specs.List.{list_all}
use Rattle.std.proofs.lemmas.Bool.{and_from, and_parts, or_parts, lt-ltb, ltb-true, ltb-false, eqb-false}
use Rattle.consistency_waits.specs.Holding.{Held, ascend, is_held, with_hold}

-- ---- what holds of all

pub all_filter : {A : Type 0} (p q : A → Bool) (xs : List A) → list_all q xs ≡ true → list_all q (filter p xs) ≡ true
all_filter p q [] h = refl
all_filter p q (x ∷ xs) h =
    let both = and_parts (q x) (list_all q xs) h in
    go (p x) refl both.0 (all_filter p q xs both.1)
  where
    go : (b : Bool) → p x ≡ b → q x ≡ true → list_all q (filter p xs) ≡ true → list_all q (filter p (x ∷ xs)) ≡ true
    go true e m r = rw e (and_from (q x) (list_all q (filter p xs)) m r)
    go false e m r = rw e r

pub all_map : {A : Type 0} (f : A → A) (q : A → Bool) (xs : List A) → ((x : A) → q (f x) ≡ q x) → list_all q (map f xs) ≡ list_all q xs
all_map f q [] k = refl
all_map f q (x ∷ xs) k = rw (k x, all_map f q xs k) refl

pub all_with : (q : Held → Bool) (xs : List Held) (h : Held) → q h ≡ true → list_all q xs ≡ true → list_all q (with_hold xs h) ≡ true
all_with q [] h m k = rw m refl
all_with q (x ∷ xs) h m k =
    let both = and_parts (q x) (list_all q xs) k in
    go (nat_lt h.session x.session) refl both.0 (all_with q xs h m both.1)
  where
    go : (b : Bool) → nat_lt h.session x.session ≡ b → q x ≡ true → list_all q (with_hold xs h) ≡ true → list_all q (with_hold (x ∷ xs) h) ≡ true
    go true e n r = rw e (and_from (q h) (list_all q (x ∷ xs)) m k)
    go false e n r = rw e (and_from (q x) (list_all q (with_hold xs h)) n r)

-- ---- the order

abbrev pub is_above : ℕ → Held → Bool
is_above s x = nat_lt s x.session

pub lt_trans : (a b c : ℕ) → nat_lt a b ≡ true → nat_lt b c ≡ true → nat_lt a c ≡ true
lt_trans a b c h k = let x : a < b = ltb-true a b h in let y : b < c = ltb-true b c k in lt-ltb a c (omega (arith, x, y))

pub above_all : (s t : ℕ) (xs : List Held) → nat_lt s t ≡ true → list_all (is_above t) xs ≡ true → list_all (is_above s) xs ≡ true
above_all s t [] h k = refl
above_all s t (x ∷ xs) h k =
    let both = and_parts (nat_lt t x.session) (list_all (is_above t) xs) k in
    and_from (nat_lt s x.session) (list_all (is_above s) xs) (lt_trans s t x.session h both.0) (above_all s t xs h both.1)

pub parts : (h : Held) (hs : List Held) → ascend (h ∷ hs) ≡ true → (list_all (is_above h.session) hs ≡ true) × (ascend hs ≡ true)
parts h hs e = and_parts (list_all (is_above h.session) hs) (ascend hs) e

put : (h : Held) (hs : List Held) → list_all (is_above h.session) hs ≡ true → ascend hs ≡ true → ascend (h ∷ hs) ≡ true
put h hs e k = and_from (list_all (is_above h.session) hs) (ascend hs) e k

pub ascend_filter : (p : Held → Bool) (hs : List Held) → ascend hs ≡ true → ascend (filter p hs) ≡ true
ascend_filter p [] h = refl
ascend_filter p (x ∷ xs) h = go (p x) refl (ascend_filter p xs (parts x xs h).1)
  where
    go : (b : Bool) → p x ≡ b → ascend (filter p xs) ≡ true → ascend (filter p (x ∷ xs)) ≡ true
    go true f r = rw f (put x (filter p xs) (all_filter p (is_above x.session) xs (parts x xs h).0) r)
    go false f r = rw f r

abbrev pub Keeps : (Held → Held) → Type 0
Keeps f = (h : Held) → (f h).session ≡ h.session

pub ascend_map : (f : Held → Held) (hs : List Held) → Keeps f → ascend (map f hs) ≡ ascend hs
ascend_map f [] k = refl
ascend_map f (x ∷ xs) k =
    ap (λ (s : ℕ). list_all (is_above s) (map f xs) && ascend (map f xs)) (k x)
    ∙ (ap (λ (b : Bool). b && ascend (map f xs)) (all_map f (is_above x.session) xs (λ y. ap (nat_lt x.session) (k y)))
    ∙ ap (λ (b : Bool). list_all (is_above x.session) xs && b) (ascend_map f xs k))

-- of two numbers that aren't the same, the one that isn't less is greater
pub other_way : (a b : ℕ) → nat_lt a b ≡ false → (b == a) ≡ false → nat_lt b a ≡ true
other_way a b h k = go (nat_lt b a) refl
  where
    go : (u : Bool) → nat_lt b a ≡ u → nat_lt b a ≡ true
    go true f = f
    go false f = let same : b ≡ a = let x : b ≤ a = ltb-false a b h in let y : a ≤ b = ltb-false b a f in omega (arith, x, y) in absurd (eqb-false b a k same)

pub ascend_with : (hs : List Held) (h : Held) → ascend hs ≡ true → is_held hs h.session ≡ false → ascend (with_hold hs h) ≡ true
ascend_with [] h e n = refl
ascend_with (x ∷ xs) h e n =
    let apart = or_parts (x.session == h.session) (is_held xs h.session) n in
    go (nat_lt h.session x.session) refl apart.0 (ascend_with xs h (parts x xs e).1 apart.1)
  where
    go : (b : Bool) → nat_lt h.session x.session ≡ b → (x.session == h.session) ≡ false → ascend (with_hold xs h) ≡ true → ascend (with_hold (x ∷ xs) h) ≡ true
    go true f m r = rw f (put h (x ∷ xs) (and_from (nat_lt h.session x.session) (list_all (is_above h.session) xs) f (above_all h.session x.session xs f (parts x xs e).0)) e)
    go false f m r = rw f (put x (with_hold xs h) (all_with (is_above x.session) xs h (other_way h.session x.session f m) (parts x xs e).0) r)
