-- Numbers in decimal digits.
use Rattle.std.proofs.Common.{◌≡◌, ◌<◌, ◌^◌, ◌++◌, ◌∷◌, [], ℕ}
use Rattle.std.proofs.Common.{List, sym, ap, ◌∙◌, append_assoc, arith, rules}
use Rattle.std.specs.Fmt.{decimal as std_decimal}
use Rattle.std.proofs.lemmas.Fmt.{AppendsLastDigit, decimal_from_appends, length-decimal-le}
use Rattle.group_rules.specs.Texts.{digits, decimal, inc_text}

own : AppendsLastDigit digits
own = search rules

-- the numerals of the texts are those that are printed
pub numerals : (n : ℕ) → n < 2 ^ 64 → decimal n ≡ std_decimal n
numerals n small = decimal_from_appends digits own 20 n small (length-decimal-le 20 n (omega arith) (omega arith) small)

-- an incarnation, as it is printed
pub inc_is : (server start : ℕ) → server < 2 ^ 64 → start < 2 ^ 64
    → std_decimal server ++ (46 ∷ std_decimal start) ≡ inc_text (record { server = server; start = start })
inc_is server start small_server small_start =
    ap (λ (t : List ℕ). t ++ (46 ∷ std_decimal start)) (sym (numerals server small_server))
    ∙ ap (λ (t : List ℕ). decimal server ++ (46 ∷ t)) (sym (numerals start small_start))
    ∙ sym (append_assoc (decimal server) (46 ∷ []) (decimal start))
