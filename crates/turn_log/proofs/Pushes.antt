use Rattle.std.proofs.Common.{◌≡◌, ℕ, zero, suc, Bool, true, false, List, [], ◌∷◌, ◌++◌, length, Some, slice_get, sym, refl, ap, ◌∙◌, subst, append-nil, if◌then◌else◌, IsTrue}
use mathlib.Core.List.{IsPrefix}
use Rattle.turn_log.specs.Pushed.{kept, pushed, Has, Stands}

kept-append : (x : ℕ) (b : Bool) (xs ys : List ℕ) → kept x b xs ++ ys ≡ kept x b (xs ++ ys)
kept-append x true xs ys = refl
kept-append x false xs ys = refl

pub pushed-append : (g h : List (ℕ × Bool)) → pushed (g ++ h) ≡ pushed g ++ pushed h
pushed-append [] h = refl
pushed-append (e ∷ es) h = ap (kept e.0 e.1) (pushed-append es h) ∙ sym (kept-append e.0 e.1 (pushed es) (pushed h))

same_rest : (xs ys zs : List ℕ) → xs ++ ys ≡ xs ++ zs → ys ≡ zs
same_rest [] ys zs e = e
same_rest (x ∷ xs) ys zs e = same_rest xs ys zs (cc e)

abbrev Entry : Type 0
Entry = ℕ × Bool

abbrev entry : ℕ → Bool → Entry
entry x b = (x, b)

one_kept : (y : ℕ) (b : Bool) (x : ℕ) → kept y b [] ≡ x ∷ [] → entry y b ≡ entry x true
one_kept y true x e = let is : y ≡ x = cc e in ap (λ (n : ℕ). entry n true) is
one_kept y false x e = absurd (cc e)

-- what the log has says which entry came last
pub one_entry : (h : List (ℕ × Bool)) (e : ℕ × Bool) (x : ℕ) → pushed (h ++ e ∷ []) ≡ pushed (h ++ (x, true) ∷ []) → e ≡ entry x true
one_entry h e x is = one_kept e.0 e.1 x (same_rest (pushed h) _ _ (sym (pushed-append h (e ∷ [])) ∙ (is ∙ pushed-append h ((x, true) ∷ []))))

pub at_end : (h : List (ℕ × Bool)) (e : ℕ × Bool) → slice_get (h ++ e ∷ []) (length h) ≡ Some e
at_end [] e = refl
at_end (x ∷ xs) e = at_end xs e

pub prefix_get : {A : Type 0} (xs ys : List A) (k : ℕ) (x : A) → IsPrefix xs ys → slice_get xs k ≡ Some x → slice_get ys k ≡ Some x
prefix_get [] ys k x p h = absurd cc
prefix_get (y ∷ xs) [] k x p h = absurd (cc (p.1))
prefix_get (y ∷ xs) (z ∷ ys) zero x p h = cc (p.1, h)
prefix_get (y ∷ xs) (z ∷ ys) (suc k) x p h = prefix_get xs ys k x (p.0, cc (p.1)) h

further : (y : ℕ) (b : Bool) (xs : List ℕ) (x : ℕ) → Has xs x → Has (kept y b xs) x
further y true xs x has = (suc has.0, has.1)
further y false xs x has = has

here : (e : ℕ × Bool) (xs : List ℕ) (x : ℕ) → e ≡ entry x true → Has (kept e.0 e.1 xs) x
here e xs x is = subst (λ (z : ℕ × Bool). Has (kept z.0 z.1 xs) x) (sym is) (0, refl)

-- a push that stands in the history is in the log
pub has_it : (h : List (ℕ × Bool)) (k x : ℕ) → Stands h k x → Has (pushed h) x
has_it [] k x at = absurd cc
has_it (e ∷ es) zero x at = here e (pushed es) x (cc at)
has_it (e ∷ es) (suc k) x at = further e.0 e.1 (pushed es) x (has_it es k x at)

pub adds : (h : List (ℕ × Bool)) (xs ys : List ℕ) (x : ℕ) (b : Bool) → xs ≡ pushed h → ys ≡ (if b then xs ++ x ∷ [] else xs) → ys ≡ pushed (h ++ (x, b) ∷ [])
adds h xs ys x true e is = is ∙ (ap (λ (l : List ℕ). l ++ x ∷ []) e ∙ sym (pushed-append h ((x, true) ∷ [])))
adds h xs ys x false e is = is ∙ (e ∙ (sym (append-nil (pushed h)) ∙ sym (pushed-append h ((x, false) ∷ []))))

-- a push that answered true is the last entry
pub last_is : (h seen : List (ℕ × Bool)) (e : ℕ × Bool) (x : ℕ) (b : Bool) (items : List ℕ) → items ≡ pushed (h ++ e ∷ []) → items ≡ pushed (h ++ (x, b) ∷ []) → seen ≡ h ++ e ∷ []
    → IsTrue b → Stands seen (length h) x
last_is h seen e x true items one two is t =
    ap (λ (l : List (ℕ × Bool)). slice_get l (length h)) is ∙ (at_end h e ∙ ap Some (one_entry h e x (sym one ∙ two)))
last_is h seen e x false items one two is t = absurd (cc t)

-- what a pass has seen is in the log of a longer history
pub in_the_end : (seen more h : List (ℕ × Bool)) (items : List ℕ) (k x : ℕ) → Stands seen k x → IsPrefix seen more → IsPrefix more h → items ≡ pushed h → Has items x
in_the_end seen more h items k x at p q is = subst (λ (l : List ℕ). Has l x) (sym is) (has_it h k x (prefix_get more h k (x, true) q (prefix_get seen more k (x, true) p at)))
