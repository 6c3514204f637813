-- The fields that forms are made of, and the place of a fault in one: the first byte with which no allowed field begins.
use Rattle.std.specs.Prelude.{ℕ, zero, suc, ◌-◌, ◌/◌, ◌^◌, Bool, true, false, ◌&&◌, nat_le, List, [], ◌∷◌, length, take, drop, if◌then◌else◌}
use Rattle.byte_forms.specs.Numbers.{number_of, are_bytes}
use Rattle.byte_forms.specs.Reads.{Read, Got, Fault, Reader, go_on, ◌>>=◌, pure}

-- A field of n bytes. The test says of some bytes whether an allowed field begins with them.
unfoldable pub field : (List ℕ → Bool) → ℕ → Reader (List ℕ)
field begins zero bytes = Got [] bytes
field begins (suc n) [] = Fault 0
field begins (suc n) (b ∷ bs) =
    elim (begins (b ∷ [])) [
      | true ↦ go_on (field (λ front. begins (b ∷ front)) n bs) (λ bytes. pure (b ∷ bytes))
      | false ↦ Fault (suc (length bs))
    ]

-- any n bytes
unfoldable pub word : ℕ → Reader (List ℕ)
word n bytes = if nat_le n (length bytes) then Got (take n bytes) (drop n bytes) else Fault 0

-- Whether the spelling in k bytes of a number from low to high begins so: the front is a number from the front of low to the front of high.
unfoldable pub begins_number : ℕ → ℕ → ℕ → List ℕ → Bool
begins_number k low high front =
    let span = 256 ^ (k - length front) in
    are_bytes front && nat_le low high && nat_le (low / span) (number_of front) && nat_le (number_of front) (high / span)

-- a number of k bytes, from low to high
unfoldable pub number_in : ℕ → ℕ → ℕ → Reader ℕ
number_in k low high = field (begins_number k low high) k >>= λ bytes. pure (number_of bytes)
