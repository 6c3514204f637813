use Rattle.std.proofs.Common.{◌≡◌, ◌<◌, true, false, Bool, ◌&&◌, ℕ, length, Result, Ok, Err, refl, sym, subst, ◌^◌, Option, rules, arith}
use Rattle.std.specs.Result.{OkIff, result_ok}
use Rattle.std.specs.Option.{SomeIff}
use Rattle.std.specs.List.{list_all}
use Rattle.std.specs.Str.Parse.{digits_value}
use Rattle.std.proofs.lemmas.Str.Parse.{IsNumeralModel, numerals_by_value, parse_digits}
use Rattle.std.proofs.lemmas.Bool.Decides.{nat_tests}
use Rattle.std.specs.Char.{is_ascii_digit}
use Rattle.script_run.proofs.numeral.read_digits.Goals as goal

own : IsNumeralModel (λ ds. list_all is_ascii_digit ds ≡ true) (digits_value 10)
own = numerals_by_value _ (search rules)

parts : (a b c : Bool) → (a && b && c) ≡ true → (a ≡ true) × (b ≡ true)
parts true true c e = (refl, refl)
parts true false c e = cc e
parts false true c e = cc e
parts false false c e = cc e

some_if : {E : Type 0} (r : Result ℕ E) (P Q : Type 0) (v : ℕ) → OkIff r (P × Q) v → P → SomeIff (result_ok r) Q v
some_if (Ok x) P Q v h p = (h.0.1, h.1)
some_if (Err e) P Q v h p = λ q. h (p, q)

pub returns : goal.returns
returns c =
    let w = c.args.word.now in
    let digits = parts _ _ _ c.requires in
    let filled : 0 < length w = grind (arith, nat_tests, digits.1) in
    let P : Option ℕ → Type 0 = λ o. SomeIff o (digits_value 10 w < 2 ^ 64) (digits_value 10 w) in
    subst P (sym c.ok.ensures.value)
    (some_if c.parse.result (0 < length w) (digits_value 10 w < 2 ^ 64) (digits_value 10 w) (parse_digits own 64 w c.parse.result c.parse.ensures.value.0 digits.0) filled)
