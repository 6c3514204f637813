-- The names that a script's words stand for.
use Rattle.std.specs.Prelude.{ℕ, ◌+◌, ◌-◌, ◌^◌, List, [], ◌∷◌, length, Bool, ◌==◌, ◌&&◌, ◌||◌, nat_lt, nat_le, slice_index, take, drop}
use Rattle.std.specs.Prelude.{Option, Some, None, if◌then◌else◌, codes}
use Rattle.std.specs.List.{list_all, position_or_len}
use Rattle.std.specs.Option.{option_map}
use Rattle.std.specs.Str.{bytes_eq}
use Rattle.group_rules.specs.Names.{Inc, Level, Eventual, BeforeOnPrimaryFailover, Before, After, BeforeAndAfter, Mode, Single, Multi}
use Rattle.script_text.specs.Words.{Text, ◌>>=◌, one_word}
use Rattle.script_text.specs.Numbers.{number_in}

-- `s.n`, the n-th start of server s: what stands before the first dot, and what stands behind it
unfoldable pub inc_of : Text → Option Inc
inc_of w = do
  let dot = position_or_len (λ b. b == 46) w
  server ← number_in 1 32 (take dot w)
  start ← number_in 1 (2 ^ 32 - 1) (drop (dot + 1) w)
  Some (record { server = server; start = start })

unfoldable pub only_inc : List Text → Option Inc
only_inc ws = one_word ws >>= inc_of

-- such a name, or no word
unfoldable pub inc_or_none : List Text → Option (Option Inc)
inc_or_none [] = Some None
inc_or_none (w ∷ ws) = option_map Some (only_inc (w ∷ ws))

unfoldable pub level_of : Text → Option Level
level_of w =
    if bytes_eq w (codes "EVENTUAL") then Some Eventual
    else if bytes_eq w (codes "BEFORE_ON_PRIMARY_FAILOVER") then Some BeforeOnPrimaryFailover
    else if bytes_eq w (codes "BEFORE") then Some Before
    else if bytes_eq w (codes "AFTER") then Some After
    else if bytes_eq w (codes "BEFORE_AND_AFTER") then Some BeforeAndAfter
    else None

unfoldable pub mode_of : Text → Option Mode
mode_of w =
    if bytes_eq w (codes "multi") then Some Multi
    else if bytes_eq w (codes "single") then Some Single
    else None

-- ---- the parts of a row

abbrev pub is_lower : ℕ → Bool
is_lower b = nat_le 97 b && nat_le b 122

abbrev pub is_table_byte : ℕ → Bool
is_table_byte b = is_lower b || (nat_le 48 b && nat_le b 57) || (b == 95)

-- a lower-case letter and up to 63 lower-case letters, digits or `_`
abbrev pub is_table : Text → Bool
is_table w = nat_lt 0 (length w) && nat_le (length w) 64 && is_lower (slice_index w 0) && list_all is_table_byte w

-- bytes from 0x21 to 0x7E
abbrev pub is_visible : ℕ → Bool
is_visible b = nat_le 33 b && nat_le b 126

-- 1 to so many of them
abbrev pub is_text : ℕ → Text → Bool
is_text most w = nat_lt 0 (length w) && nat_le (length w) most && list_all is_visible w
