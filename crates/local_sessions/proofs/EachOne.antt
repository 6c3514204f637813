-- A loop that changes one element after another.
use Rattle.std.proofs.Common.{◌≡◌, ℕ, zero, suc, ◌+◌, ◌<◌, ◌≤◌, List, [], ◌∷◌, map, length, get_or, refl, ap, subst, arith}
use Rattle.std.specs.Prelude.{slice_set}

-- the first n are changed
abbrev pub changed_to : {A : Type 0} → (A → A) → ℕ → List A → List A
changed_to f zero xs = xs
changed_to f (suc n) [] = []
changed_to f (suc n) (x ∷ xs) = f x ∷ changed_to f n xs

next_changed : {A : Type 0} (f : A → A) (n : ℕ) (xs : List A) (d : A) → n < length xs → slice_set (changed_to f n xs) n (f (get_or (changed_to f n xs) n d)) ≡ changed_to f (suc n) xs
next_changed f n [] d h = absurd (omega (arith, h))
next_changed f zero (x ∷ xs) d h = refl
next_changed f (suc n) (x ∷ xs) d h = ap (λ l. f x ∷ l) (next_changed f n xs d (omega (arith, h)))

pub one_more : {A : Type 0} (f : A → A) (n : ℕ) (xs : List A) (d : A) → n < length xs → slice_set (changed_to f n xs) n (f (get_or (changed_to f n xs) n d)) ≡ changed_to f (n + 1) xs
one_more f n xs d h = let e : suc n ≡ n + 1 = omega arith in subst (λ k. slice_set (changed_to f n xs) n (f (get_or (changed_to f n xs) n d)) ≡ changed_to f k xs) e (next_changed f n xs d h)

pub all_changed : {A : Type 0} (f : A → A) (n : ℕ) (xs : List A) → length xs ≤ n → changed_to f n xs ≡ map f xs
all_changed f zero [] h = refl
all_changed f (suc n) [] h = refl
all_changed f zero (x ∷ xs) h = absurd (omega (arith, h))
all_changed f (suc n) (x ∷ xs) h = ap (λ l. f x ∷ l) (all_changed f n xs (omega (arith, h)))
