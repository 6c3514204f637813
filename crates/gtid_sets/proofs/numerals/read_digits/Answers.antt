use Rattle.std.proofs.Common.{◌≡◌, ◌<◌, true, ℕ, length, Result, Ok, Err, sym, subst, ◌^◌, Option, rules}
use Rattle.std.specs.Result.{OkIff, result_ok}
use Rattle.std.specs.Option.{SomeIff}
use Rattle.std.specs.List.{list_all}
use Rattle.std.specs.Str.Parse.{digits_value}
use Rattle.std.proofs.lemmas.Str.{IsUtf8-from_ascii}
use Rattle.std.proofs.lemmas.Str.Parse.{IsNumeralModel, numerals_by_value, parse_digits}
use Rattle.std.proofs.lemmas.Fmt.{IsAscii-from_digits}
use Rattle.std.specs.Char.{is_ascii_digit}
use Rattle.gtid_sets.proofs.numerals.read_digits.Goals as goal

own : IsNumeralModel (λ ds. list_all is_ascii_digit ds ≡ true) (digits_value 10)
own = numerals_by_value _ (search rules)

some_if : {E : Type 0} (r : Result ℕ E) (P Q : Type 0) (v : ℕ) → OkIff r (P × Q) v → P → SomeIff (result_ok r) Q v
some_if (Ok x) P Q v h p = (h.0.1, h.1)
some_if (Err e) P Q v h p = λ q. h (p, q)

pub unreachable-requires : goal.unreachable-requires
unreachable-requires c =
    c.in-Err.ensures.cases.0 (IsUtf8-from_ascii c.args.digits.now (IsAscii-from_digits c.args.digits.now (own.to c.args.digits.now c.requires.digits)))

pub returns : goal.returns
returns c =
    let w = c.args.digits.now in
    let same = c.in-Ok.ensures.cases.0 in
    let reads = rw same at c.parse.ensures.value.0 in
    let P : Option ℕ → Type 0 = λ o. SomeIff o (digits_value 10 w < 2 ^ 64) (digits_value 10 w) in
    subst P (sym c.ok.ensures.value) (some_if c.parse.result (0 < length w) (digits_value 10 w < 2 ^ 64) (digits_value 10 w) (parse_digits own 64 w c.parse.result reads c.requires.digits) c.requires.some)
