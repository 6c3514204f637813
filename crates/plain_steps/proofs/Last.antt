-- What a history has more than another that it goes on from.
use Rattle.std.proofs.Common.{◌≡◌, ◌-◌, ◌+◌, ℕ, List, [], ◌∷◌, ◌++◌, refl, ap, ◌∙◌, length, take, arith, length-append}

take_length : {A : Type 0} (xs ys : List A) → take (length xs) (xs ++ ys) ≡ xs
take_length [] ys = refl
take_length (x ∷ xs) ys = ap (λ l. x ∷ l) (take_length xs ys)

pub take_more : {A : Type 0} (xs ys : List A) → take (length (xs ++ ys) - length ys) (xs ++ ys) ≡ xs
take_more xs ys =
    let h : length (xs ++ ys) ≡ length xs + length ys = length-append xs ys in
    let e : length (xs ++ ys) - length ys ≡ length xs = omega (arith, h) in
    ap (λ n. take n (xs ++ ys)) e ∙ take_length xs ys
