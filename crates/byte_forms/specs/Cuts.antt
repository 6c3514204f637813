-- What a cutter stands for, and what a call that reads by it does.
use Rattle.std.specs.Prelude.{◌≡◌, ℕ, ◌-◌, ◌≤◌, List}
use Rattle.byte_forms.specs.Reads.{Got, Fault, Reader}

-- the bytes that are left, and the length of the whole input
pub record Cut : Type 0 where
  pub left : List ℕ
  pub total : ℕ

-- The value was read, and the bytes behind it are left.
pub record Takes {A : Type 0} (read : Reader A) (old : Cut) (x : A) (new : Cut) : Type 0 where
  pub value : read old.left ≡ Got x new.left
  pub whole : new.total ≡ old.total

-- The spelling breaks off at this byte of the whole input.
pub record FaultsAt {A : Type 0} (read : Reader A) (old : Cut) (at : ℕ) : Type 0 where
  pub fault : read old.left ≡ Fault (old.total - at)
  pub within : at ≤ old.total
