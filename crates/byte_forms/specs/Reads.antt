-- Reading a form at the front of some bytes.
use Rattle.std.specs.Prelude.{ℕ, suc, Option, Some, None, List, [], ◌∷◌, length}

pub data Read (A : Type 0) : Type 0 where
  -- the value, and the bytes behind its spelling
  Got : A → List ℕ → Read A
  -- the spelling breaks off where so many bytes are left
  Fault : ℕ → Read A

-- how a form is read from the bytes that begin with it
abbrev pub Reader : Type 0 → Type 0
Reader A = List ℕ → Read A

abbrev pub go_on : {A B : Type 0} → Read A → (A → Reader B) → Read B
go_on (Got x rest) next = next x rest
go_on (Fault left) next = Fault left

-- one form, and behind it the next one, which may depend on the value before
infixl 10 ◌>>=◌
abbrev pub ◌>>=◌ : {A B : Type 0} → Reader A → (A → Reader B) → Reader B
(read >>= next) bytes = go_on (read bytes) next

-- a value that takes no bytes
abbrev pub pure : {A : Type 0} → A → Reader A
pure x bytes = Got x bytes

-- a value behind which the bytes end
abbrev pub at_end : {A : Type 0} → A → Reader A
at_end x [] = Got x []
at_end x (b ∷ bytes) = Fault (suc (length bytes))

-- a form that is all of the bytes
abbrev pub whole : {A : Type 0} → Reader A → Reader A
whole read = read >>= at_end

-- the value, if one was read
abbrev pub value_of : {A : Type 0} → Read A → Option A
value_of (Got x rest) = Some x
value_of (Fault left) = None
