-- The range of slots: 1 to 2 ^ 42.
use Rattle.std.specs.Prelude.{ℕ, ◌≤◌}

-- 2 ^ 42
abbrev pub last_slot : ℕ
last_slot = 4398046511104

abbrev pub IsSlot : ℕ → Type 0
IsSlot t = (1 ≤ t) × (t ≤ last_slot)
