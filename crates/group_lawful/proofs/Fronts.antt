-- Lists up to a place.
use Rattle.std.proofs.Common.{◌≡◌, ℕ, suc, ◌≤◌, List, [], ◌∷◌, refl, sym, ◌∙◌, length, arith}
use Rattle.std.proofs.lemmas.Bool.{le-leb, lt-leb}
use Rattle.group_laws.specs.Lists.{IsPast}
use Rattle.group_laws.specs.Lawful.{upto}
use Rattle.group_laws.proofs.Acks.{upto_past}

pub upto_all : {A : Type 0} (n : ℕ) (xs : List A) → length xs ≤ n → upto n xs ≡ xs
upto_all n [] h = refl
upto_all n (x ∷ xs) h = rw (le-leb (suc (length xs)) n h) refl

pub upto_zero : {A : Type 0} (xs : List A) → upto 0 xs ≡ []
upto_zero [] = refl
upto_zero (x ∷ xs) = rw (lt-leb (suc (length xs)) 0 (omega arith)) (upto_zero xs)

pub upto_less : {A : Type 0} (n : ℕ) (x : A) (xs : List A) → n ≤ length xs → upto n (x ∷ xs) ≡ upto n xs
upto_less n x xs h = rw (lt-leb (suc (length xs)) n (omega (arith, h))) refl

-- a past of a list is the list up to its length
pub past_is_upto : {A : Type 0} (p k : List A) → IsPast p k → p ≡ upto (length p) k
past_is_upto p k h = sym (upto_all (length p) p (omega arith)) ∙ sym (upto_past (length p) p k h (omega arith))
