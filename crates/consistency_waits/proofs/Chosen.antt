-- Holds that are chosen by a test: they leave, and the others stay.
use Rattle.std.proofs.Common.{◌≡◌, ℕ, Bool, true, false, not, Option, Some, None, List, [], ◌∷◌, map, filter, refl, sym, ap, ◌∙◌, ne_eqb, arith}
use Rattle.std.specs.Prelude.{find, nat_lt, ◌==◌}
use Rattle.std.specs.List.{list_all, list_any}
use Rattle.std.proofs.lemmas.Bool.{and_from, and_parts, or_parts, eq-eqb, ltb-true}
use Rattle.consistency_waits.specs.Holding.{Held, ascend, held_in, without}
use Rattle.consistency_waits.proofs.Ascending.{all_filter, is_above, parts}
use Rattle.consistency_waits.proofs.Finding.{above_none, held_none, in_without, others_stay}
use Rattle.consistency_waits.proofs.Known.{has_session}

abbrev pub fails : (Held → Bool) → Held → Bool
fails q h = not (q h)

-- ---- the first goes

pub alone : (h : Held) (hs : List Held) → ascend (h ∷ hs) ≡ true → without h.session (h ∷ hs) ≡ hs
alone h hs k = rw (eq-eqb h.session h.session refl) (others_stay hs h.session (held_none hs h.session (above_none hs h.session (parts h hs k).0)))

found_holds : (q r : Held → Bool) (hs : List Held) (h : Held) → list_all r hs ≡ true → find q hs ≡ Some h → r h ≡ true
found_holds q r [] h k e = cc
found_holds q r (x ∷ xs) h k e =
    let both = and_parts (r x) (list_all r xs) k in
    go (q x) refl both.0 (found_holds q r xs h both.1)
  where
    go : (b : Bool) → q x ≡ b → r x ≡ true → (find q xs ≡ Some h → r h ≡ true) → r h ≡ true
    go true f m i = let same : Some x ≡ Some h = rw f at e in let one : x ≡ h = cc in ap r (sym one) ∙ m
    go false f m i = i (rw f at e)

pub first_chosen : (q : Held → Bool) (hs : List Held) (h : Held) → ascend hs ≡ true → find q hs ≡ Some h → filter q hs ≡ h ∷ filter q (without h.session hs)
first_chosen q [] h k e = cc
first_chosen q (x ∷ xs) h k e = go (q x) refl (x.session == h.session) refl (first_chosen q xs h (parts x xs k).1)
  where
    go : (b : Bool) → q x ≡ b → (c : Bool) → (x.session == h.session) ≡ c → (find q xs ≡ Some h → filter q xs ≡ h ∷ filter q (without h.session xs)) → filter q (x ∷ xs) ≡ h ∷ filter q (without h.session (x ∷ xs))
    go true f c g i =
        let same : Some x ≡ Some h = rw f at e in
        let one : x ≡ h = cc in
        let rest : without h.session (x ∷ xs) ≡ xs = ap (λ (y : Held). without y.session (x ∷ xs)) (sym one) ∙ alone x xs k in
        rw (f, rest) (ap (λ (y : Held). y ∷ filter q xs) one)
    go false f true g i = let r : filter q xs ≡ h ∷ filter q (without h.session xs) = i (rw f at e) in rw (f, g) r
    go false f false g i = let r : filter q xs ≡ h ∷ filter q (without h.session xs) = i (rw f at e) in rw (f, g, f) r

pub rest_stays : (q : Held → Bool) (hs : List Held) (h : Held) → ascend hs ≡ true → find q hs ≡ Some h → filter (fails q) (without h.session hs) ≡ filter (fails q) hs
rest_stays q [] h k e = cc
rest_stays q (x ∷ xs) h k e = go (q x) refl (rest_stays q xs h (parts x xs k).1)
  where
    go : (b : Bool) → q x ≡ b → (find q xs ≡ Some h → filter (fails q) (without h.session xs) ≡ filter (fails q) xs) → filter (fails q) (without h.session (x ∷ xs)) ≡ filter (fails q) (x ∷ xs)
    go true f i =
        let same : Some x ≡ Some h = rw f at e in
        let one : x ≡ h = cc in
        let rest : without h.session (x ∷ xs) ≡ xs = ap (λ (y : Held). without y.session (x ∷ xs)) (sym one) ∙ alone x xs k in
        ap (filter (fails q)) rest ∙ (rw f refl)
    go false f i =
        let found : find q xs ≡ Some h = rw f at e in
        let up : nat_lt x.session h.session ≡ true = found_holds q (is_above x.session) xs h (parts x xs k).0 found in
        let apart : (x.session == h.session) ≡ false = ne_eqb x.session h.session (λ s. let w = ltb-true x.session h.session up in omega (arith, w, s)) in
        rw (apart, f) (ap (λ l. x ∷ l) (i found))

pub none_chosen : (q : Held → Bool) (hs : List Held) → find q hs ≡ None → filter q hs ≡ []
none_chosen q [] e = refl
none_chosen q (x ∷ xs) e = go (q x) refl (none_chosen q xs)
  where
    go : (b : Bool) → q x ≡ b → (find q xs ≡ None → filter q xs ≡ []) → filter q (x ∷ xs) ≡ []
    go true f i = let none : Some x ≡ None = rw f at e in cc
    go false f i = rw f (i (rw f at e))

pub all_stay : (q : Held → Bool) (hs : List Held) → find q hs ≡ None → filter (fails q) hs ≡ hs
all_stay q [] e = refl
all_stay q (x ∷ xs) e = go (q x) refl (all_stay q xs)
  where
    go : (b : Bool) → q x ≡ b → (find q xs ≡ None → filter (fails q) xs ≡ xs) → filter (fails q) (x ∷ xs) ≡ x ∷ xs
    go true f i = let none : Some x ≡ None = rw f at e in cc
    go false f i = rw f (ap (λ l. x ∷ l) (i (rw f at e)))

pub not_any : (q : Held → Bool) (hs : List Held) → list_any q hs ≡ false → filter q hs ≡ []
not_any q [] e = refl
not_any q (x ∷ xs) e = let both = or_parts (q x) (list_any q xs) e in rw both.0 (not_any q xs both.1)

-- ---- all go

abbrev pub without_all : List ℕ → List Held → List Held
without_all [] hs = hs
without_all (s ∷ ss) hs = without_all ss (without s hs)

abbrev pub sessions_of : List Held → List ℕ
sessions_of hs = map {A = Held} (λ h. h.session) hs

lower_stays : (ss : List ℕ) (h : Held) (hs : List Held) → list_all (nat_lt h.session) ss ≡ true → without_all ss (h ∷ hs) ≡ h ∷ without_all ss hs
lower_stays [] h hs k = refl
lower_stays (s ∷ ss) h hs k =
    let both = and_parts (nat_lt h.session s) (list_all (nat_lt h.session) ss) k in
    let apart : (h.session == s) ≡ false = ne_eqb h.session s (λ e. let w = ltb-true h.session s both.0 in omega (arith, w, e)) in
    let first : without s (h ∷ hs) ≡ h ∷ without s hs = rw apart refl in
    ap (without_all ss) first ∙ lower_stays ss h (without s hs) both.1

all_sessions : (n : ℕ) (hs : List Held) → list_all (is_above n) hs ≡ true → list_all (nat_lt n) (sessions_of hs) ≡ true
all_sessions n [] k = refl
all_sessions n (x ∷ xs) k = let both = and_parts (nat_lt n x.session) (list_all (is_above n) xs) k in and_from (nat_lt n x.session) (list_all (nat_lt n) (sessions_of xs)) both.0 (all_sessions n xs both.1)

pub left_over : (q : Held → Bool) (hs : List Held) → ascend hs ≡ true → without_all (sessions_of (filter q hs)) hs ≡ filter (fails q) hs
left_over q [] k = refl
left_over q (x ∷ xs) k = go (q x) refl (left_over q xs (parts x xs k).1)
  where
    go : (b : Bool) → q x ≡ b → without_all (sessions_of (filter q xs)) xs ≡ filter (fails q) xs → without_all (sessions_of (filter q (x ∷ xs))) (x ∷ xs) ≡ filter (fails q) (x ∷ xs)
    go true f r =
        let more : without_all (sessions_of (filter q (x ∷ xs))) (x ∷ xs) ≡ without_all (sessions_of (filter q xs)) (without x.session (x ∷ xs)) = rw f refl in
        let less : filter (fails q) (x ∷ xs) ≡ filter (fails q) xs = rw f refl in
        more ∙ (ap (without_all (sessions_of (filter q xs))) (alone x xs k) ∙ (r ∙ sym less))
    go false f r = rw f (lower_stays (sessions_of (filter q xs)) x xs (all_sessions x.session (filter q xs) (all_filter q (is_above x.session) xs (parts x xs k).0)) ∙ ap (λ l. x ∷ l) r)

pub none_of : (ss : List ℕ) (hs : List Held) (t : ℕ) → (has_session ss t ≡ false → held_in hs t ≡ None) → held_in (without_all ss hs) t ≡ None
none_of [] hs t h = h refl
none_of (s ∷ ss) hs t h = none_of ss (without s hs) t (λ n. in_without hs s t ∙ go (s == t) refl n)
  where
    go : (b : Bool) → (s == t) ≡ b → has_session ss t ≡ false → ◌≡◌ {A = Option Held} (elim (s == t) [ true ↦ None | false ↦ held_in hs t ]) None
    go true e n = rw e refl
    go false e n = let m : has_session (s ∷ ss) t ≡ false = rw e n in rw e (h m)

pub nobody : (hs : List Held) → ((t : ℕ) → held_in hs t ≡ None) → hs ≡ []
nobody [] h = refl
nobody (x ∷ xs) h = let none : held_in (x ∷ xs) x.session ≡ None = h x.session in let there : Some x ≡ None = rw (eq-eqb x.session x.session refl) at none in cc
