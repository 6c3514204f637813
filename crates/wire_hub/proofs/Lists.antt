-- Lists of letters, and lists of views.
use Rattle.std.proofs.Common.{◌≡◌, ◌≢◌, ℕ, zero, suc, ◌<◌, ◌⊎◌, inl, inr, ⊎_elim, Bool, true, false, ◌||◌, true≢false, eqb, eqb-true, eq-eqb, List, [], ◌∷◌, ◌++◌, length, set, sym, refl, ap, ◌∙◌, subst, arith, append_assoc, append-nil}
use Rattle.std.proofs.Math.Dec.{ltb}
use Rattle.std.proofs.lemmas.Bool.{and_parts, and_from, lt-ltb}
use Rattle.std.specs.List.{list_any}
use Rattle.std.proofs.lemmas.List.Elements.{filter-append}
use Rattle.std.proofs.lemmas.List.Folds.{list_any-append}
use mathlib.Core.Option.{some, some-ne-none}
use mathlib.Core.List.{IsPrefix}
use lib.ListN.{get_elem?}
use Rattle.gr_ids.specs.declared.names.Inc.{Inc}
use Rattle.gr_ids.specs.Names.{inc_eq, has_inc}
use Rattle.crossbeam_queue.proofs.Lists.{at_set}
use Rattle.wire_hub.specs.declared.letter.Letter.{Letter}
use Rattle.wire_hub.specs.declared.view.View.{View}
use Rattle.wire_hub.specs.Letters.{of, rises, last_index}

-- ---- names

pub same_inc : (p q : Inc) → inc_eq p q ≡ true → p ≡ q
same_inc p q h = let k = and_parts (eqb p.server q.server) (eqb p.start q.start) h in λ i. record { server = eqb-true p.server q.server k.0 i; start = eqb-true p.start q.start k.1 i }

pub eq_self : (p : Inc) → inc_eq p p ≡ true
eq_self p = and_from (eqb p.server p.server) (eqb p.start p.start) (eq-eqb p.server p.server refl) (eq-eqb p.start p.start refl)

pub either_way : (b : Bool) → (b ≡ true) ⊎ (b ≡ false)
either_way true = inl refl
either_way false = inr refl

pub eq_apart : (p q : Inc) → (p ≡ q → ⊥) → inc_eq p q ≡ false
eq_apart p q apart = ⊎_elim (λ (h : inc_eq p q ≡ true). absurd (apart (same_inc p q h))) (λ (h : inc_eq p q ≡ false). h) (either_way (inc_eq p q))

pub true_not_false : (b : Bool) → b ≡ true → b ≡ false → ⊥
true_not_false b t f = true≢false (sym t ∙ f)

pub neither : (a b : Bool) → a ≡ false → b ≡ false → (a || b) ≡ false
neither false b p q = q
neither true b p q = absurd (true≢false p)

or_none : (a b : Bool) → (a || b) ≡ false → (a ≡ false) × (b ≡ false)
or_none false b h = (refl, h)
or_none true b h = absurd (true≢false h)

pub not_among : (xs : List Inc) (p q : Inc) → has_inc (xs ++ p ∷ []) q ≡ false → (has_inc xs q ≡ false) × (inc_eq p q ≡ false)
not_among xs p q h =
    let f : Inc → Bool = λ x. inc_eq x q in
    let k = or_none (list_any f xs) (list_any f (p ∷ [])) (sym (list_any-append f xs (p ∷ [])) ∙ h) in
    (k.0, (or_none (inc_eq p q) false k.1).0)

-- ---- beginnings

module _ {A : Type 0} where
  pub prefix_self : (xs : List A) → IsPrefix xs xs
  prefix_self xs = ([], append-nil xs)

  pub prefix_none : (xs : List A) → IsPrefix [] xs
  prefix_none xs = (xs, refl)

  pub prefix_more : (xs ys zs : List A) → IsPrefix xs ys → IsPrefix xs (ys ++ zs)
  prefix_more xs ys zs p = (p.0 ++ zs, sym (append_assoc xs p.0 zs) ∙ ap (λ w. w ++ zs) p.1)

-- ---- the letters of one sender

pub of-append : (p : Inc) (xs ys : List Letter) → of p (xs ++ ys) ≡ of p xs ++ of p ys
of-append p xs ys = filter-append (λ (x : Letter). inc_eq p x.from) xs ys

pub of_mine : (p : Inc) (x : Letter) → inc_eq p x.from ≡ true → of p (x ∷ []) ≡ x ∷ []
of_mine p x e = rw e

pub of_other : (p : Inc) (x : Letter) → inc_eq p x.from ≡ false → of p (x ∷ []) ≡ []
of_other p x e = rw e

pub of_next : (p : Inc) (xs : List Letter) (x : Letter) → inc_eq p x.from ≡ true → of p (xs ++ x ∷ []) ≡ of p xs ++ x ∷ []
of_next p xs x e = of-append p xs (x ∷ []) ∙ ap (λ w. of p xs ++ w) (of_mine p x e)

pub of_same : (p : Inc) (xs : List Letter) (x : Letter) → inc_eq p x.from ≡ false → of p (xs ++ x ∷ []) ≡ of p xs
of_same p xs x e = of-append p xs (x ∷ []) ∙ (ap (λ w. of p xs ++ w) (of_other p x e) ∙ append-nil (of p xs))

-- a letter is among those of its sender
pub was_sent : (xs ys : List Letter) (x : Letter) → of x.from (xs ++ x ∷ ys) ≡ [] → ⊥
was_sent [] ys x e = let is : of x.from (x ∷ ys) ≡ x ∷ of x.from ys = rw (eq_self x.from) in cc (e, is)
was_sent (y ∷ xs) ys x e = ⊎_elim
    (λ (h : inc_eq x.from y.from ≡ true). let is : of x.from (y ∷ (xs ++ x ∷ ys)) ≡ y ∷ of x.from (xs ++ x ∷ ys) = rw h in cc (e, is))
    (λ (h : inc_eq x.from y.from ≡ false). let is : of x.from (y ∷ (xs ++ x ∷ ys)) ≡ of x.from (xs ++ x ∷ ys) = rw h in was_sent xs ys x (sym is ∙ e))
    (either_way (inc_eq x.from y.from))

-- where no one has sent, nothing was sent
pub none_sent : (xs : List Letter) → ((p : Inc) → of p xs ≡ []) → xs ≡ []
none_sent [] h = refl
none_sent (x ∷ xs) h = let e : of x.from (x ∷ xs) ≡ x ∷ of x.from xs = rw (eq_self x.from) in absurd (cc (h x.from, e))

pub rises_next : (n : ℕ) (xs : List Letter) (x : Letter) → rises n xs ≡ true → last_index n xs < x.index → rises n (xs ++ x ∷ []) ≡ true
rises_next n [] x r l = and_from (ltb n x.index) true (lt-ltb n x.index l) refl
rises_next n (y ∷ ys) x r l = let k = and_parts (ltb n y.index) (rises y.index ys) r in and_from (ltb n y.index) (rises y.index (ys ++ x ∷ [])) k.0 (rises_next y.index ys x k.1 l)

pub rises_begun : (n : ℕ) (xs ys : List Letter) → rises n (xs ++ ys) ≡ true → rises n xs ≡ true
rises_begun n [] ys r = refl
rises_begun n (x ∷ xs) ys r = let k = and_parts (ltb n x.index) (rises x.index (xs ++ ys)) r in and_from (ltb n x.index) (rises x.index xs) k.0 (rises_begun x.index xs ys k.1)

pub last-next : (n : ℕ) (xs : List Letter) (x : Letter) → last_index n (xs ++ x ∷ []) ≡ x.index
last-next n [] x = refl
last-next n (y ∷ ys) x = last-next y.index ys x

-- ---- views

pub each_set : (F : ℕ → View → Type 0) (views : List View) (pass : ℕ) (w : View) → F pass w → ((j : ℕ) (u : View) → j ≢ pass → get_elem? views j ≡ some u → F j u)
    → (j : ℕ) (u : View) → get_elem? (set views pass w) j ≡ some u → F j u
each_set F views pass w mine others j u e = ⊎_elim (λ (x : (j ≡ pass) × (w ≡ u)). subst (λ (y : ℕ × View). F y.0 y.1) (λ i. (sym x.0 i, x.1 i)) mine)
    (λ (x : (j ≢ pass) × (get_elem? views j ≡ some u)). others j u x.0 x.1) (at_set views pass j w u e)

at_end : (l : List View) (a b : View) (j : ℕ) → get_elem? (l ++ a ∷ []) j ≡ some b → (get_elem? l j ≡ some b) ⊎ ((j ≡ length l) × (a ≡ b))
at_end [] a b zero e = inr (refl, cc (e))
at_end [] a b (suc j) e = absurd (some-ne-none b (sym e))
at_end (x ∷ xs) a b zero e = inl e
at_end (x ∷ xs) a b (suc j) e = ⊎_elim (λ (h : get_elem? xs j ≡ some b). inl h) (λ (h : (j ≡ length xs) × (a ≡ b)). inr (ap suc h.0, h.1)) (at_end xs a b j e)

pub each_end : (F : ℕ → View → Type 0) (views : List View) (w : View) → F (length views) w → ((j : ℕ) (u : View) → get_elem? views j ≡ some u → F j u)
    → (j : ℕ) (u : View) → get_elem? (views ++ w ∷ []) j ≡ some u → F j u
each_end F views w last others j u e = ⊎_elim (λ (h : get_elem? views j ≡ some u). others j u h)
    (λ (h : (j ≡ length views) × (w ≡ u)). subst (λ (y : ℕ × View). F y.0 y.1) (λ i. (sym h.0 i, h.1 i)) last) (at_end views w u j e)

pub below_length : (l : List View) (j : ℕ) (b : View) → get_elem? l j ≡ some b → j < length l
below_length [] j b e = absurd (some-ne-none b (sym e))
below_length (x ∷ xs) zero b e = omega arith
below_length (x ∷ xs) (suc j) b e = let r = below_length xs j b e in omega arith
