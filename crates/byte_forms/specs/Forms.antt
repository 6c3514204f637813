-- What makes a spelling and a reader the two sides of one form.
use Rattle.std.specs.Prelude.{◌≡◌, List, ℕ, ◌++◌}
use Rattle.byte_forms.specs.Reads.{Got, Reader}

-- Each value that fits is read from its spelling, whatever follows.
pub record IsRead {A : Type 0} (Fits : A → Type 0) (spelling : A → List ℕ) (read : Reader A) : Type 0 where
  pub reads : (x : A) (rest : List ℕ) → Fits x → read (spelling x ++ rest) ≡ Got x rest

-- What is read fits, and its spelling is what was read.
pub record IsSpelled {A : Type 0} (Fits : A → Type 0) (spelling : A → List ℕ) (read : Reader A) : Type 0 where
  pub spells : (bytes rest : List ℕ) (x : A) → read bytes ≡ Got x rest → Fits x × (bytes ≡ spelling x ++ rest)

-- Each value that fits is read from its spelling, whatever follows. What is read fits, and its spelling is what was read.
pub record IsForm {A : Type 0} (Fits : A → Type 0) (spelling : A → List ℕ) (read : Reader A) : Type 0 where
  pub reads : (x : A) (rest : List ℕ) → Fits x → read (spelling x ++ rest) ≡ Got x rest
  pub spells : (bytes rest : List ℕ) (x : A) → read bytes ≡ Got x rest → Fits x × (bytes ≡ spelling x ++ rest)
