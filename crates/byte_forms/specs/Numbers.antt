-- Numbers as bytes, the highest first.
use Rattle.std.specs.Prelude.{ℕ, zero, suc, ◌+◌, ◌*◌, ◌/◌, ◌%◌, ◌^◌, Bool, List, [], ◌∷◌, length, nat_lt}
use Rattle.std.specs.List.{list_all}

-- the lowest k bytes of a number: its spelling, where it is below 256 ^ k
unfoldable pub number : ℕ → ℕ → List ℕ
number zero n = []
number (suc k) n = (n / 256 ^ k % 256) ∷ number k n

-- the number that bytes spell
unfoldable pub number_of : List ℕ → ℕ
number_of [] = 0
number_of (b ∷ bs) = b * 256 ^ length bs + number_of bs

-- whether each is a byte
abbrev pub are_bytes : List ℕ → Bool
are_bytes bytes = list_all (λ b. nat_lt b 256) bytes
