-- Lists under a map, where one element is written.
use Rattle.std.proofs.Common.{◌≡◌, ℕ, zero, suc, ◌<◌, List, [], ◌∷◌, length, set, get_or, map, sym, refl, ap, ◌∙◌, arith, Some, slice_get}

module _ {A B : Type 0} (f : A → B) where
  -- a write that f does not see
  pub map_kept : (xs : List A) (k : ℕ) (x y : A) → x ≡ get_or xs k x → f y ≡ f x → map f (set xs k y) ≡ map f xs
  map_kept [] k x y is e = refl
  map_kept (z ∷ zs) zero x y is e = ap (λ w. w ∷ map f zs) (e ∙ ap f is)
  map_kept (z ∷ zs) (suc k) x y is e = ap (λ w. f z ∷ w) (map_kept zs k x y is e)

  pub map_read : (xs : List A) (k : ℕ) (x : A) (d : B) → k < length xs → x ≡ get_or xs k x → get_or (map f xs) k d ≡ f x
  map_read [] k x d l is = absurd (omega arith)
  map_read (z ∷ zs) zero x d l is = ap f (sym is)
  map_read (z ∷ zs) (suc k) x d l is = map_read zs k x d (omega arith) is

  pub map_at : (xs : List A) (k : ℕ) (x : A) → k < length xs → x ≡ get_or xs k x → slice_get (map f xs) k ≡ Some (f x)
  map_at [] k x l is = absurd (omega arith)
  map_at (z ∷ zs) zero x l is = ap (λ w. Some (f w)) (sym is)
  map_at (z ∷ zs) (suc k) x l is = map_at zs k x (omega arith) is

  pub map_within : (xs : List A) (k : ℕ) (y : B) → slice_get (map f xs) k ≡ Some y → k < length xs
  map_within [] k y e = absurd (cc e)
  map_within (z ∷ zs) zero y e = omega arith
  map_within (z ∷ zs) (suc k) y e = let r = map_within zs k y e in omega arith

  pub map_under : (xs : List A) (k : ℕ) (y : B) → slice_get (map f xs) k ≡ Some y → (x : A) × (slice_get xs k ≡ Some x) × (f x ≡ y)
  map_under [] k y e = absurd (cc e)
  map_under (z ∷ zs) zero y e = (z, refl, cc e)
  map_under (z ∷ zs) (suc k) y e = map_under zs k y e
