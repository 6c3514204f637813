-- Forms of any length: a count of four bytes, and so many elements or bytes.
use Rattle.std.specs.Prelude.{ℕ, zero, suc, ◌^◌, List, [], ◌∷◌, ◌++◌, length, Option, Some, None}
use Rattle.std.specs.List.{flat_map}
use Rattle.byte_forms.specs.Numbers.{number}
use Rattle.byte_forms.specs.Reads.{Reader, ◌>>=◌, pure}
use Rattle.byte_forms.specs.Fields.{word, number_in}

-- a list: its length, and each element
abbrev pub several : {A : Type 0} → (A → List ℕ) → List A → List ℕ
several spelling xs = number 4 (length xs) ++ flat_map spelling xs

-- bytes: their length, and the bytes
abbrev pub counted : List ℕ → List ℕ
counted bytes = number 4 (length bytes) ++ bytes

-- n elements, each read in the light of the one before
unfoldable pub elements : {A : Type 0} → (Option A → Reader A) → Option A → ℕ → Reader (List A)
elements read before zero = pure []
elements read before (suc n) = do
  x ← read before
  xs ← elements read (Some x) n
  pure (x ∷ xs)

-- each element is right behind the one before it
abbrev pub IsChain : {A : Type 0} → (Option A → A → Type 0) → Option A → List A → Type 0
IsChain IsNext before [] = Unit {0}
IsChain IsNext before (x ∷ xs) = IsNext before x × IsChain IsNext (Some x) xs

-- a list of at least so many elements
abbrev pub list_of : {A : Type 0} → ℕ → (Option A → Reader A) → Reader (List A)
list_of least read = number_in 4 least 4294967295 >>= elements read None

-- bytes, from low to high of them
abbrev pub bytes_in : ℕ → ℕ → Reader (List ℕ)
bytes_in low high = number_in 4 low high >>= word
