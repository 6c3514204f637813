-- A number below 256 ^ k has one spelling in k bytes, and k bytes spell one number.
use Rattle.std.proofs.Common.{◌≡◌, ℕ, zero, suc, ◌+◌, ◌-◌, ◌*◌, ◌/◌, ◌%◌, ◌^◌, ◌<◌, ◌≤◌, Bool, true, false, ◌&&◌, List, [], ◌∷◌, ◌++◌, length, refl, sym, ap, subst, ◌∙◌, arith, length-append, ltb, leb}
use Rattle.std.specs.List.{list_all}
use Rattle.std.specs.Int.{w16, w32, w64, to_be_bytes, bytes_high_first}
use Rattle.std.proofs.lemmas.Bool.{and_parts, and_from, ltb-true, lt-ltb}
use Rattle.std.proofs.lemmas.Nat.{same_from_place, mod_below, pow-add, mul-add-lt}
use Rattle.std.proofs.Math.Arith.{mod-mul}
use Rattle.std.proofs.Math.Nat.{pow-suc, pow-succ', mod-eq_of_lt, mod-one, div-one, one-le-pow}
use Rattle.byte_forms.specs.Numbers.{number, number_of, are_bytes}

pub span_pos : (k : ℕ) → 0 < 256 ^ k
span_pos k = omega (arith, one-le-pow k 256 (omega arith))

span-suc : (k : ℕ) → 256 ^ suc k ≡ 256 * 256 ^ k
span-suc k = pow-succ' 256 k

pub length-number : (k n : ℕ) → length (number k n) ≡ k
unfolding number
length-number zero n = refl
length-number (suc k) n = ap suc (length-number k n)

pub are_bytes-number : (k n : ℕ) → are_bytes (number k n) ≡ true
unfolding number
are_bytes-number zero n = refl
are_bytes-number (suc k) n = and_from _ _ (lt-ltb _ _ (mod_below (n / 256 ^ k) 256 (omega arith))) (are_bytes-number k n)

pub number_of-append : (xs ys : List ℕ) → number_of (xs ++ ys) ≡ number_of xs * 256 ^ length ys + number_of ys
unfolding number_of
number_of-append [] ys = omega arith
number_of-append (x ∷ xs) ys =
    let later = number_of-append xs ys in
    let spans : 256 ^ length (xs ++ ys) ≡ 256 ^ length xs * 256 ^ length ys = ap (λ k. 256 ^ k) (length-append xs ys) ∙ pow-add 256 (length xs) (length ys) in
    rw (spans, later) (omega arith)

pub number_of-below : (bytes : List ℕ) → are_bytes bytes ≡ true → number_of bytes < 256 ^ length bytes
unfolding number_of
number_of-below [] h = omega arith
number_of-below (b ∷ bs) h =
    let parts = and_parts _ _ h in
    let small : b < 256 = ltb-true b 256 parts.0 in
    let later = number_of-below bs parts.1 in
    rw (pow-suc 256 (length bs)) (mul-add-lt b (256 ^ length bs) (number_of bs) 256 small later)

pub number_of-number_mod : (k n : ℕ) → number_of (number k n) ≡ n % 256 ^ k
unfolding number number_of
number_of-number_mod zero n = sym (mod-one n)
number_of-number_mod (suc k) n =
    rw (length-number k n, number_of-number_mod k n, span-suc k) (sym (mod-mul n (omega arith) (span_pos k)))

pub number_of-number : (k n : ℕ) → n < 256 ^ k → number_of (number k n) ≡ n
number_of-number k n h = number_of-number_mod k n ∙ mod-eq_of_lt h

pub same_bytes : (xs ys : List ℕ) → length xs ≡ length ys → are_bytes xs ≡ true → are_bytes ys ≡ true → number_of xs ≡ number_of ys → xs ≡ ys
unfolding number_of
same_bytes [] [] e hx hy same = refl
same_bytes [] (y ∷ ys) e hx hy same = absurd (omega arith)
same_bytes (x ∷ xs) [] e hx hy same = absurd (omega arith)
same_bytes (x ∷ xs) (y ∷ ys) e hx hy same =
    let long : length xs ≡ length ys = omega arith in
    let px = and_parts _ _ hx in
    let py = and_parts _ _ hy in
    let ex : x * 256 ^ length ys + number_of xs ≡ y * 256 ^ length ys + number_of ys = sym (ap (λ k. x * 256 ^ k + number_of xs) long) ∙ same in
    let below : number_of xs < 256 ^ length ys = subst (λ (k : ℕ). number_of xs < 256 ^ k) long (number_of-below xs px.1) in
    let heads = same_from_place x (number_of xs) y (number_of ys) (256 ^ length ys) below (number_of-below ys py.1) ex in
    let tails : xs ≡ ys = same_bytes xs ys long px.1 py.1 heads.1 in
    let head : x ≡ y = heads.0 in
    cc

pub number-number_of : (bytes : List ℕ) → are_bytes bytes ≡ true → number (length bytes) (number_of bytes) ≡ bytes
number-number_of bytes h =
    same_bytes _ _ (length-number _ _) (are_bytes-number _ _) h (number_of-number (length bytes) (number_of bytes) (number_of-below bytes h))

-- the bytes of std's numbers
high_first : (k n : ℕ) → number k n ≡ bytes_high_first k n
unfolding number
high_first zero n = refl
high_first (suc zero) n = rw (div-one n) refl
high_first (suc (suc k)) n = ap (λ bs. (n / 256 ^ suc k % 256) ∷ bs) (high_first (suc k) n)

pub number_1 : (n : ℕ) → n < 256 → number 1 n ≡ n ∷ []
unfolding number
number_1 n h = rw (div-one n, mod-eq_of_lt {n = n} {m = 256} h) refl

pub number_2 : (n : ℕ) → to_be_bytes w16 n ≡ number 2 n
number_2 n = sym (high_first 2 n)

pub number_4 : (n : ℕ) → to_be_bytes w32 n ≡ number 4 n
number_4 n = sym (high_first 4 n)

pub number_8 : (n : ℕ) → to_be_bytes w64 n ≡ number 8 n
number_8 n = sym (high_first 8 n)
