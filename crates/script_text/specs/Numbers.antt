-- The numbers of a script: decimal, without a sign and without a leading zero.
use Rattle.std.specs.Prelude.{ℕ, ◌^◌, List, [], ◌∷◌, length, Bool, not, ◌==◌, ◌&&◌, ◌||◌, nat_lt, nat_le, slice_index, Option, Some, None}
use Rattle.std.specs.Prelude.{if◌then◌else◌}
use Rattle.std.specs.List.{list_all}
use Rattle.std.specs.Option.{option_map}
use Rattle.std.specs.Char.{is_ascii_digit}
use Rattle.std.specs.Str.Parse.{digits_value}
use Rattle.script_text.specs.Words.{Text, ◌>>=◌, first_word, one_word}

-- digits without a leading zero
abbrev pub is_plain : Text → Bool
is_plain w = list_all is_ascii_digit w && nat_lt 0 (length w) && (not (slice_index w 0 == 48) || (length w == 1))

-- the number below 2^64 that a word stands for
unfoldable pub number_of : Text → Option ℕ
number_of w = if is_plain w && nat_lt (digits_value 10 w) (2 ^ 64) then Some (digits_value 10 w) else None

-- a number from low to high
unfoldable pub number_in : ℕ → ℕ → Text → Option ℕ
number_in low high w = number_of w >>= (λ n. if nat_le low n && nat_le n high then Some n else None)

-- such a number, and the words behind it
unfoldable pub first_number : ℕ → ℕ → List Text → Option (ℕ × List Text)
first_number low high ws = do
  (w, others) ← first_word ws
  n ← number_in low high w
  Some (n, others)

-- one word that is such a number
unfoldable pub only_number : ℕ → ℕ → List Text → Option ℕ
only_number low high ws = one_word ws >>= number_in low high

-- such a number, or no word
unfoldable pub number_or_none : ℕ → ℕ → List Text → Option (Option ℕ)
number_or_none low high [] = Some None
number_or_none low high (w ∷ ws) = option_map Some (only_number low high (w ∷ ws))
