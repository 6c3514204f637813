-- A number is read from its decimal, and from nothing else.
use Rattle.std.proofs.Common.{◌≡◌, ◌==◌, ◌<◌, ◌≤◌, ◌^◌, ◌&&◌, ◌||◌, not, cond, true, false, Bool, ℕ, List, length, get_or, Some, None}
use Rattle.std.proofs.Common.{refl, sym, ap, subst, ◌∙◌, arith, rules, ltb, inl, inr}
use Rattle.std.proofs.lemmas.Bool.{cases_lt}
use Rattle.std.specs.List.{list_all}
use Rattle.std.specs.Char.{is_ascii_digit}
use Rattle.std.specs.Fmt.{decimal}
use Rattle.std.specs.Str.Parse.{digits_value}
use Rattle.std.proofs.lemmas.Bool.Decides.{nat_tests}
use Rattle.std.proofs.lemmas.Str.Parse.{IsNumeralModel, numerals_by_value}
use Rattle.std.proofs.lemmas.Fmt.{digits_decimal, digits_value-decimal, decimal-digits_value, decimal_nonempty, first_decimal, decimal_digit}
use Rattle.script_text.specs.Numbers.{is_plain, number_of}

own : IsNumeralModel (λ ds. list_all is_ascii_digit ds ≡ true) (digits_value 10)
own = numerals_by_value _ (search rules)

some_parts : (p v : Bool) (x n : ℕ) → cond (p && v) (Some x) None ≡ Some n → (p ≡ true) × (v ≡ true) × (x ≡ n)
some_parts true true x n e = (refl, refl, cc e)
some_parts true false x n e = cc e
some_parts false true x n e = cc e
some_parts false false x n e = cc e

plain_parts : (d f z o : Bool) → (d && f && (not z || o)) ≡ true → (d ≡ true) × (f ≡ true) × (z ≡ true → o ≡ true)
plain_parts true true true true e = (refl, refl, λ x. refl)
plain_parts true true true false e = cc e
plain_parts true true false o e = (refl, refl, λ x. cc x)
plain_parts true false z o e = cc e
plain_parts false f z o e = cc e

plain_from : (d f z o : Bool) → d ≡ true → f ≡ true → (z ≡ true → o ≡ true) → (d && f && (not z || o)) ≡ true
plain_from true true true o d f h = h refl
plain_from true true false o d f h = refl
plain_from true false z o d f h = cc f
plain_from false f z o d g h = cc d

pub to_decimal : (w : List ℕ) (n : ℕ) → number_of w ≡ Some n → (n < 2 ^ 64) × (w ≡ decimal n)
unfolding number_of
to_decimal w n e =
    let s = some_parts (is_plain w) (ltb (digits_value 10 w) (2 ^ 64)) (digits_value 10 w) n e in
    let p = plain_parts (list_all is_ascii_digit w) (ltb 0 (length w)) (get_or w 0 0 == 48) (length w == 1) s.0 in
    let small : digits_value 10 w < 2 ^ 64 = grind (arith, nat_tests, s.1) in
    let filled : 0 < length w = grind (arith, nat_tests, p.1) in
    let zero : get_or w 0 0 ≡ 48 → length w ≡ 1 = λ z. grind (arith, nat_tests, p.2) in
    (subst (λ (x : ℕ). x < 2 ^ 64) s.2 small, sym (decimal-digits_value own w p.0 filled zero small) ∙ ap decimal s.2)

one_zero : (n : ℕ) → n < 2 ^ 64 → (get_or (decimal n) 0 0 == 48) ≡ true → (length (decimal n) == 1) ≡ true
one_zero n small z = elim (cases_lt 0 n) [ inl some ↦ absurd (let f = first_decimal n some small in grind (arith, nat_tests)) | inr none ↦ zero none ]
  where
    zero : n ≤ 0 → (length (decimal n) == 1) ≡ true
    zero none = ap (λ (w : List ℕ). length w == 1) (decimal_digit n (omega arith))

plain_decimal : (n : ℕ) → n < 2 ^ 64 → is_plain (decimal n) ≡ true
plain_decimal n small =
    let filled : ltb 0 (length (decimal n)) ≡ true = let f = decimal_nonempty n small in grind (arith, nat_tests) in
    plain_from (list_all is_ascii_digit (decimal n)) (ltb 0 (length (decimal n))) (get_or (decimal n) 0 0 == 48) (length (decimal n) == 1)
    (digits_decimal own n small) filled (one_zero n small)

pub from_decimal : (w : List ℕ) (n : ℕ) → n < 2 ^ 64 → w ≡ decimal n → number_of w ≡ Some n
unfolding number_of
from_decimal w n small is =
    let value = digits_value-decimal own n small in
    let fits : ltb (digits_value 10 (decimal n)) (2 ^ 64) ≡ true = grind (arith, nat_tests, value) in
    ap number_of is
    ∙ ap (λ (p : Bool). cond (p && ltb (digits_value 10 (decimal n)) (2 ^ 64)) (Some (digits_value 10 (decimal n))) None) (plain_decimal n small)
    ∙ ap (λ (v : Bool). cond v (Some (digits_value 10 (decimal n))) None) fits ∙ ap Some value
