-- The words of a command.
use Rattle.std.specs.Prelude.{◌≡◌, ℕ, ◌-◌, ◌^◌, ◌≤◌, Bool, true, false, ◌&&◌, List, [], ◌∷◌, length, nat_lt, nat_le, Option, Some, None, option_and_then, if◌then◌else◌, codes, map, string_bytes}
use Rattle.std.specs.Prelude.{String}
use Rattle.std.specs.List.{list_all}
use Rattle.std.specs.Char.{is_ascii_digit}
use Rattle.std.specs.Str.{bytes_eq}
use Rattle.std.specs.Str.Parse.{digits_value}
use Rattle.std.specs.declared.alloc.Global.{Global}
use Rattle.script_run.specs.declared.command.Command.{Command}
use Rattle.script_run.specs.declared.command.Command.TheVariants.{Play, Make}

infixl 10 ◌>>=◌
abbrev pub ◌>>=◌ : {A B : Type 0} → Option A → (A → Option B) → Option B
o >>= f = option_and_then f o

-- the words as texts
abbrev pub texts_of : List (String Global) → List (List ℕ)
texts_of words = map string_bytes words

-- 1 to 20 decimal digits; zeros may lead
abbrev pub is_numeral : List ℕ → Bool
is_numeral w = list_all is_ascii_digit w && nat_lt 0 (length w) && nat_le (length w) 20

-- the number that a word stands for, if it isn't above `most`
unfoldable pub number_to : ℕ → List ℕ → Option ℕ
number_to most w = if is_numeral w && nat_le (digits_value 10 w) most then Some (digits_value 10 w) else None

-- the words behind `make`
unfoldable pub make_of : List ℕ → List ℕ → Option Command
make_of steps from = do
  n ← number_to 20000 steps
  x ← number_to (2 ^ 64 - 1) from
  Some (Make n x)

-- `play`, `play --report` and `make N FROM`
unfoldable pub command_of : List (List ℕ) → Option Command
command_of (a ∷ []) = if bytes_eq a (codes "play") then Some (Play false) else None
command_of (a ∷ b ∷ []) = if bytes_eq a (codes "play") && bytes_eq b (codes "--report") then Some (Play true) else None
command_of (a ∷ b ∷ c ∷ []) = if bytes_eq a (codes "make") then make_of b c else None
command_of ws = None

abbrev pub IsCommand : List (List ℕ) → Type 0
IsCommand ws = (c : Command) × (command_of ws ≡ Some c)

-- a script isn't made of more steps
abbrev pub InRange : Command → Type 0
InRange (Play report) = Unit {0}
InRange (Make n x) = n ≤ 20000
